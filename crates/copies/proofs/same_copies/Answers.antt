use Rattle.std.proofs.Common.{sym, ◌∙◌}
use mathlib.Core.Bool.{false≢true}
use Rattle.std.proofs.lemmas.Slice.Eq.{slice_eq-Decides}
use Rattle.copies.proofs.Books.{equal_books, equal_copies}
use Rattle.copies.proofs.same_copies.Goals as goal
use Rattle.std.proofs.lemmas.Bool.Decides.{Decides-eqb}

pub returns : goal.returns
returns c =
    let d = slice_eq-Decides Decides-eqb c.args.one.now c.args.other.now c.eq.result c.eq.ensures in
    record {
      same = d.0;
      differ = λ f e. false≢true (sym f ∙ d.1 e);
      books = record {
        yes = λ p q lp lq like a b ka kb ea eb y. equal_copies p q lp lq like a b ka kb (sym ea ∙ d.0 y ∙ eb);
        exactly = λ p q lp lq like a b ka kb ea eb e. d.1 (ea ∙ equal_books p q lp lq like a b ka kb e ∙ sym eb);
      };
    }
