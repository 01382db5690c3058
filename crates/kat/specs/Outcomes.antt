-- What each request is answered, by the definitions of the library.
use Rattle.std.specs.Prelude.{ℕ, cond, ◌&&◌, List, length, vec_items, ◌==◌, Ok, Err, Result}
use Rattle.aes.specs.Aes128 as aes
use Rattle.block.specs.Blocks.{to_block, xor_bytes}
use Rattle.cipher.specs.declared.Cipher.{Ghosts as CipherMeaning}
use Rattle.field.specs.Field.{hash, product}
use Rattle.keys.specs.Cards.{whole_key}
use Rattle.keys.specs.declared.WholeKey.{WholeKey}
use Rattle.mode.specs.Modes.{Sealing, permitted}
use Rattle.refusal.specs.declared.Refusal.{Refusal}
use Rattle.refusal.specs.Refusals.{number_of}
use Rattle.speck.specs.Speck as speck
use Rattle.xcb.specs.Xcb as xcb
use Rattle.xts.specs.Xts as xts
use Rattle.kat.specs.declared.answer.Reply.{Reply}
use Rattle.kat.specs.declared.answer.Reply.TheVariants as reply
use Rattle.kat.specs.declared.request.CipherName.{CipherName}
use Rattle.kat.specs.declared.request.CipherName.TheVariants.{Aes128, Speck}
use Rattle.kat.specs.declared.request.Passage.{Passage}
use Rattle.kat.specs.declared.request.Request.{Request}
use Rattle.kat.specs.declared.request.Request.TheVariants.{Cards, Cipher, Double, Hash, Product}
use Rattle.kat.specs.declared.request.Task.{Task}
use Rattle.kat.specs.declared.request.Task.TheVariants.{Block, Xcb, Xts}
use Rattle.kat.specs.declared.request.Way.{Way}
use Rattle.kat.specs.declared.request.Way.TheVariants.{Open, Seal}

-- a block, a text, or the number of a refusal
pub data Outcome : Type 0 where
  a_block : ℕ → Outcome
  a_text : List ℕ → Outcome
  refused : ℕ → Outcome

abbrev pub shown : Result Reply Refusal → Outcome
shown (Ok (reply.Block b)) = a_block b
shown (Ok (reply.Text v)) = a_text (vec_items v)
shown (Err e) = refused (number_of e)

-- what a key makes of a block
abbrev pub sealed : CipherName → ℕ → ℕ → ℕ
sealed Aes128 k n = aes.sealed k n
sealed Speck k n = speck.sealed k n

abbrev pub opened : CipherName → ℕ → ℕ → ℕ
opened Aes128 k n = aes.opened k n
opened Speck k n = speck.opened k n

-- what sealing gives, or what opening gives
abbrev pub turned : {A : Type 0} → Way → A → A → A
turned Seal a b = a
turned Open a b = b

abbrev pub xts_of : CipherName → ℕ → ℕ → Sealing
xts_of c first second = xts.by_functions (sealed c first) (opened c first) (sealed c second)

abbrev pub xcb_of : CipherName → ℕ → Sealing
xcb_of c key =
    let e = sealed c key 1 in
    let d = sealed c key 3 in
    let s = sealed c key 5 in
    xcb.by_functions (sealed c e) (opened c e) (sealed c d) (opened c d) (sealed c s) (sealed c key 0)

abbrev pub text_outcome : Sealing → Passage → Outcome
text_outcome m p =
    let xs = vec_items p.text in
    cond (permitted (length xs)) (a_text (turned p.way (m.sealed p.tweak xs) (m.opened p.tweak xs))) (refused 1)

-- a task by any cipher whose keys are whole keys
unfoldable pub task_outcome : {C : Type 0} → CipherMeaning C WholeKey → Task → Outcome
task_outcome m (Block k n w) = a_block (turned w (m.sealed (whole_key k) n) (m.opened (whole_key k) n))
task_outcome m (Xts first second p) = text_outcome (xts.xts m (whole_key first) (whole_key second)) p
task_outcome m (Xcb k p) = text_outcome (xcb.xcb m (whole_key k)) p

-- 5 for what is no card, then 6 for the same card twice
abbrev pub cards_outcome : List ℕ → List ℕ → Outcome
cards_outcome a b =
    cond (length a == 16 && length b == 16) (cond (to_block a == to_block b) (refused 6) (a_block (to_block (xor_bytes a b)))) (refused 5)

abbrev pub outcome : Request → Outcome
outcome (Cipher c (Block k n w)) = a_block (turned w (sealed c k n) (opened c k n))
outcome (Cipher c (Xts first second p)) = text_outcome (xts_of c first second) p
outcome (Cipher c (Xcb k p)) = text_outcome (xcb_of c k) p
outcome (Product x y) = a_block (product x y)
outcome (Hash h v) = a_block (hash h (vec_items v))
outcome (Double t) = a_block (xts.doubled t)
outcome (Cards a b) = cards_outcome (vec_items a) (vec_items b)
