use Rattle.std.proofs.Common.{◌≡◌, rules}
use Rattle.std.specs.Option.{option_map}
use Rattle.text.specs.Nguids.{after, nguid_front, parts_of, read_nguid}
use Rattle.text.proofs.NguidLaws.{nguid_exactly}
use Rattle.text.proofs.nguid.Nguid.read.Goals as goal

pub returns-clause-exactly : goal.returns-clause-exactly
unfolding after nguid_front read_nguid
returns-clause-exactly c =
    let told : option_map parts_of c.filter.result ≡ read_nguid c.args.layer c.args.text.now = search rules in
    rw told (nguid_exactly c.args.layer c.args.text.now)
