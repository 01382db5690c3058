-- The letters at the front are ASCII, and they are all.
use Rattle.std.proofs.Common.{take, ◌∙◌, rules}
use Rattle.std.specs.Str.{IsUtf8}
use Rattle.std.proofs.lemmas.Str.{IsUtf8-from_ascii}
use Rattle.doors.proofs.Letters.{ascii_front, letters-padded}
use Rattle.doors.proofs.names.letters_of.Goals as goal

pub unwrap-requires : goal.unwrap-requires
unwrap-requires c =
    let text : IsUtf8 (take c.count_letters-n.result c.args.name.now) =
    rw c.count_letters-n.ensures.value (IsUtf8-from_ascii _ (ascii_front c.args.name.now)) in
    search rules

pub returns : goal.returns
returns c =
    let h = rw (c.unwrap.ensures, c.count_letters-n.ensures.value) at c.from_utf8.ensures.cases in
    h.0 ∙ letters-padded c.args.name.now c.requires
