-- What two accepted cards come to, and that a cipher's tasks are those of its name.
use Rattle.std.proofs.Common.{◌≡◌, ℕ, List, length, ap, ap₂, arith}
use Rattle.std.proofs.lemmas.Bool.Decides.{nat_tests}
use Rattle.block.specs.Blocks.{to_block, xor_bytes}
use Rattle.cipher.specs.declared.Cipher.{Ghosts as CipherMeaning}
use Rattle.keys.specs.Cards.{whole_key}
use Rattle.keys.specs.declared.WholeKey.{WholeKey}
use Rattle.mode.specs.Modes.{Sealing}
use Rattle.xcb.specs.Xcb.{xcb}
use Rattle.xts.specs.Xts.{xts}
use Rattle.kat.specs.declared.request.CipherName.{CipherName}
use Rattle.kat.specs.declared.request.Request.TheVariants.{Cipher}
use Rattle.kat.specs.declared.request.Task.{Task}
use Rattle.kat.specs.declared.request.Task.TheVariants.{Block, Xcb, Xts}
use Rattle.kat.specs.Outcomes.{a_block, cards_outcome, opened, outcome, sealed, task_outcome, text_outcome, turned, xcb_of, xts_of}

pub laid : (a b : List ℕ) (v : ℕ) → length a ≡ 16 → length b ≡ 16 → (to_block a ≡ to_block b → ⊥) → v ≡ to_block (xor_bytes a b) → a_block v ≡ cards_outcome a b
laid a b v la lb ne e = grind (arith, nat_tests)

-- a cipher's tasks are those of its name, where its functions are, and the modes over it
module _ {C : Type 0} (m : CipherMeaning C WholeKey) (c : CipherName)
    (s : (k n : ℕ) → m.sealed (whole_key k) n ≡ sealed c k n) (o : (k n : ℕ) → m.opened (whole_key k) n ≡ opened c k n)
    (x : (a b : ℕ) → xts m (whole_key a) (whole_key b) ≡ xts_of c a b) (y : (k : ℕ) → xcb m (whole_key k) ≡ xcb_of c k) where
  pub same_task : (t : Task) → task_outcome m t ≡ outcome (Cipher c t)
  unfolding task_outcome
  same_task (Block k n w) = ap₂ (λ (a b : ℕ). a_block (turned w a b)) (s k n) (o k n)
  same_task (Xts a b p) = ap (λ (z : Sealing). text_outcome z p) (x a b)
  same_task (Xcb k p) = ap (λ (z : Sealing). text_outcome z p) (y k)
