use Rattle.std.proofs.Common.{◌≡◌, arith}
use Rattle.std.proofs.lemmas.Bool.Decides.{nat_tests}
use Rattle.text.specs.AddressNumber.{read_number}
use Rattle.text.proofs.NumberLaws.{not_past, number_exactly}
use Rattle.text.proofs.address_number.AddressNumber.read.Goals as goal

pub returns-clause-exactly : goal.returns-clause-exactly
unfolding read_number
returns-clause-exactly c =
    let told : c.map.result ≡ read_number c.args.text.now = grind (arith, nat_tests) in
    rw told (number_exactly c.args.text.now)

pub returns-clause-not_past : goal.returns-clause-not_past
unfolding read_number
returns-clause-not_past c = not_past c.args.text.now _ (grind (arith, nat_tests))
