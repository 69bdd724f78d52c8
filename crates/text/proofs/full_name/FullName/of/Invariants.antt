use Rattle.std.proofs.Common.{◌≡◌, [], take}
use Rattle.std.specs.List.{fold}
use Rattle.text.specs.FullNames.{name_of, name_with, texts_of}
use Rattle.text.proofs.full_name.FullName.of.Given as goal

-- the name is what the elements so far join to
abbrev pub invariant-loop-element : goal.invariant-loop-element
invariant-loop-element l = name_of l.name ≡ fold name_with [] (texts_of (take l.element-index l.elements))
