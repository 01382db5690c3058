use Rattle.std.proofs.Common.{◌≡◌, ℕ, ◌<◌, length, vec_items, ap, ◌∙◌, subst}
use Rattle.std.specs.Int.Digits.{AllBelowBase}
use Rattle.std.proofs.ByRecursion.{All-from_get_or}
use Rattle.store.specs.Stores.{Meaning, write_answer, after_write}
use Rattle.chip.specs.declared.Chip.{Chip}
use Rattle.chip.specs.Meant.{meant}
use Rattle.chip_math.proofs.Chipped.{chip_sound}
use Rattle.window.specs.declared.Window.{Window}
use Rattle.window.specs.Windows.{window}
use Rattle.sealed.specs.Overs.{layer}
use Rattle.piles.proofs.Left.{memory_left}
use Rattle.piles.proofs.write_through.Goals as goal

pub returns : goal.returns
returns g c =
    let chip = c.args.chip in
    let after = c.into_below.result in
    let pile = c.new-pile.result in
    let last = c.read_again-outcome.new.store in
    let s = g.M.Mode.sealing c.args.mode in
    let s' = g.M.Mode.sealing last.mode in
    let xs = c.args.buffer.now in
    let made : layer (window (meant pile.store.store) pile.store.first pile.store.count) (g.M.Mode.sealing pile.mode) ≡ layer (window (meant chip) c.args.first c.args.count) s =
    ap (λ (w : Window (Chip g.row.C.Denot)). layer (window (meant w.store) w.first w.count) (g.M.Mode.sealing pile.mode)) c.new-pile.ensures.store
    ∙ ap (λ (d : Chip g.row.C.Denot). layer (window (meant d) c.new.result.first c.new.result.count) (g.M.Mode.sealing pile.mode)) c.new.ensures.store
    ∙ ap (λ (n : ℕ). layer (window (meant chip) n c.new.result.count) (g.M.Mode.sealing pile.mode)) c.new.ensures.first
    ∙ ap (λ (n : ℕ). layer (window (meant chip) c.args.first n) (g.M.Mode.sealing pile.mode)) c.new.ensures.count
    ∙ ap (λ m. layer (window (meant chip) c.args.first c.args.count) (g.M.Mode.sealing m)) c.new-pile.ensures.mode in
    let back : after ≡ last.store.store = c.into_below.ensures ∙ ap (λ (w : Window (Chip g.row.C.Denot)). w.store) c.into_parts-window.ensures.0 in
    let e : layer (window (meant after) last.store.first last.store.count) s' ≡ after_write (layer (window (meant chip) c.args.first c.args.count) s) c.args.sector xs =
    ap (λ (d : Chip g.row.C.Denot). layer (window (meant d) last.store.first last.store.count) s') back
    ∙ c.read_again-outcome.ensures.after
    ∙ ap (λ (m : Meaning). after_write m c.args.sector xs) made in
    let u : AllBelowBase 256 xs = subst (AllBelowBase 256) c.read_again-outcome.ensures.bytes (All-from_get_or (λ b. b < 256) c.read_again-outcome.new.buffer 0 (λ i _. (c.type_inv.buffer i).fits)) in
    let r =
    memory_left chip.size.bytes (vec_items chip.bytes) (vec_items chip.lives) after.size.bytes (vec_items after.bytes) (vec_items after.lives)
    (chip_sound chip.size.bytes (vec_items chip.bytes) (vec_items chip.lives) chip.size.sized chip.bytes_fit chip.lives_fit)
    (chip_sound after.size.bytes (vec_items after.bytes) (vec_items after.lives) after.size.sized after.bytes_fit after.lives_fit)
    c.args.first c.args.count last.store.first last.store.count s s' (g.met.M.Mode.lawful c.args.mode) (g.met.M.Mode.lawful last.mode) c.args.sector xs u e in
    record {
      reply = c.read_again-outcome.ensures.reply ∙ ap (λ (m : Meaning). write_answer m c.args.sector (length xs)) made;
      size = r.size;
      bytes = r.bytes;
      lives = r.lives;
      buffer = c.read_again-outcome.ensures.bytes;
    }
