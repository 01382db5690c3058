use Rattle.std.proofs.Common.{◌≡◌, ℕ, ◌-◌, ◌<◌, ◌≤◌, cond, ltb, List, length, get_or, set, sym, refl, ap, ◌∙◌, subst, arith, Option, Some, None, Result, Ok, Err}
use Rattle.std.specs.Option.{SomeIff, ok_or}
use Rattle.std.proofs.lemmas.Bool.{le-ltb, cond-false}
use Rattle.refusal.specs.declared.Refusal.{Refusal}
use Rattle.refusal.specs.declared.Refusal.TheVariants.{Worn}
use Rattle.std.proofs.lemmas.List.{with_items_is, get_or_default}
use Rattle.store.proofs.Tests.{passed_on}
use Rattle.refusal.specs.Refusals.{number_of}
use Rattle.refusal.proofs.Numbers.{number_not_0}
use Rattle.chip_math.specs.Chips.{chip}
use Rattle.chip_math.proofs.Written.{bytes_kept, small_overlaid, small_set}
use Rattle.chip_math.proofs.Placing.{refused_place, refused_worn, write_placed, overlay, length-overlaid}
use Rattle.chip.proofs.sectors.ChipStore.write.Goals as goal

-- what is left of a life, and the refusal where nothing is
spent : (r : Option ℕ) (life left : ℕ) → SomeIff r (1 ≤ life) (life - 1) → ◌≡◌ {A = Result ℕ Refusal} (Ok left) (ok_or r Worn) → (0 < life) × (left ≡ life - 1)
spent None life left h e = absurd (cc)
spent (Some x) life left h e = let same : left ≡ x = cc in (omega arith, same ∙ h.1)

worn : (r : Option ℕ) (life : ℕ) (e : Refusal) → SomeIff r (1 ≤ life) (life - 1) → ◌≡◌ {A = Result ℕ Refusal} (Err e) (ok_or r Worn) → number_of e ≡ cond (ltb 0 life) 0 7
worn None life e h p = let same : e ≡ Worn = cc in ap number_of same ∙ sym (cond-false _ 0 7 (le-ltb 0 life (omega arith)))
worn (Some x) life e h p = absurd (cc)

pub returns-in_err-at-clause-reply : goal.returns-in_err-at-clause-reply
returns-in_err-at-clause-reply g c =
    let s = c.args.self.now in
    let e = c.in_err-at.field-0.0 in
    passed_on c.from_residual.result e c.from_residual.ensures.1
    ∙ refused_place s.size.bytes s.bytes.items s.lives.items c.args.sector (number_of e) (length c.args.buffer.now) c.in_err-at.ensures.reply (number_not_0 e)

pub returns-in_err-at-clause-bytes : goal.returns-in_err-at-clause-bytes
returns-in_err-at-clause-bytes g c =
    let s = c.args.self.now in
    let e = c.in_err-at.field-0.0 in
    bytes_kept s.size.bytes s.bytes.items s.lives.items c.args.sector c.args.buffer.now
    (λ z. number_not_0 e (refused_place s.size.bytes s.bytes.items s.lives.items c.args.sector (number_of e) (length c.args.buffer.now) c.in_err-at.ensures.reply (number_not_0 e) ∙ z))

pub returns-in_err-left-clause-reply : goal.returns-in_err-left-clause-reply
returns-in_err-left-clause-reply g c =
    let s = c.args.self.now in
    let e = c.in_err-left.field-0.0 in
    let p = c.in_ok-at.ensures.value in
    let life : c.index.result.now ≡ get_or s.lives.items c.args.sector 0 =
    c.index.ensures ∙ get_or_default s.lives.items c.args.sector c.index.result.now 0 p.in_lives in
    passed_on c.from_residual-in_err-left.result e c.from_residual-in_err-left.ensures.1
    ∙ refused_worn s.size.bytes s.bytes.items s.lives.items c.args.sector c.args.buffer.now c.in_ok-at.at p (number_of e)
    (worn c.checked_sub.result c.index.result.now e c.checked_sub.ensures c.in_err-left.ensures.value ∙ ap (λ (x : ℕ). cond (ltb 0 x) 0 7) life)
    (number_not_0 e)

pub invariant_of-self-2 : goal.invariant_of-self-2
invariant_of-self-2 g c =
    let s = c.args.self.now in
    let k = c.args.sector in
    let at = c.in_ok-at.at in
    let xs = c.args.buffer.now in
    let p = c.in_ok-at.ensures.value in
    let new = overlay at s.bytes.items c.deref_mut.result.now c.rewrite.new.sector xs c.deref_mut.ensures.value p.in_bytes c.rewrite.ensures in
    let long = ap length new ∙ length-overlaid at s.bytes.items xs p.in_bytes ∙ sym (ap length c.deref_mut.ensures.value) ∙ c.deref_mut.ensures.len in
    let life : c.index.result.now ≡ get_or s.lives.items k 0 = c.index.ensures ∙ get_or_default s.lives.items k c.index.result.now 0 p.in_lives in
    let fits = s.lives_fit k in
    let left = (spent c.checked_sub.result c.index.result.now c.in_ok-left.left c.checked_sub.ensures c.in_ok-left.ensures.value).1 in
    record {
      bytes_fit = subst (λ (ys : List ℕ). (i : ℕ) → get_or ys i 0 < 256) (sym (with_items_is s.bytes _ long ∙ new)) (small_overlaid at s.bytes.items xs s.bytes_fit (λ i. (c.type_inv.buffer i).fits));
      lives_fit = small_set s.lives.items k c.in_ok-left.left s.lives_fit (omega arith);
    }

pub returns : goal.returns
returns g c =
    let s = c.args.self.now in
    let k = c.args.sector in
    let at = c.in_ok-at.at in
    let xs = c.args.buffer.now in
    let p = c.in_ok-at.ensures.value in
    let new = overlay at s.bytes.items c.deref_mut.result.now c.rewrite.new.sector xs c.deref_mut.ensures.value p.in_bytes c.rewrite.ensures in
    let long = ap length new ∙ length-overlaid at s.bytes.items xs p.in_bytes ∙ sym (ap length c.deref_mut.ensures.value) ∙ c.deref_mut.ensures.len in
    let is = with_items_is s.bytes _ long ∙ new in
    let life : c.index.result.now ≡ get_or s.lives.items k 0 = c.index.ensures ∙ get_or_default s.lives.items k c.index.result.now 0 p.in_lives in
    let left = spent c.checked_sub.result c.index.result.now c.in_ok-left.left c.checked_sub.ensures c.in_ok-left.ensures.value in
    let alive = left.0 in
    let r = write_placed s.size.bytes s.bytes.items s.lives.items k xs at p c.in_ok-left.left (omega arith) (left.1 ∙ ap (λ (x : ℕ). x - 1) life) in
    record {
      reply = r.reply;
      after = ap (λ (ys : List ℕ). chip s.size.bytes ys (set s.lives.items k c.in_ok-left.left)) is ∙ r.after;
      size = refl;
      bytes = is ∙ r.raw_bytes;
      lives = r.raw_lives;
    }
