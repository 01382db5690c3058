use Rattle.std.proofs.Common.{◌≡◌, ℕ, ◌+◌, ◌-◌, ◌*◌, ◌/◌, ◌%◌, ◌^◌, ◌<◌, [], get_or, sym, ap, ◌∙◌, ap₂, mod-eq_of_lt, arith}
use lib.Bits.{bit_xor}
use Rattle.field.specs.Steps.{stepwise, entry}
use Rattle.field.proofs.Horner.{stepwise_zero}
use Rattle.field.proofs.Ghash.{product_steps}
use Rattle.field.proofs.Table.{nibble, top_nibble, moved_up}
use Rattle.field.proofs.HashKey.times.Goals as goal

pub loop-row-init : goal.loop-row-init
loop-row-init c =
    let h : ℕ = c.args.self.now.h in
    let x : ℕ = c.args.x in
    let f : x < 2 ^ 128 = c.ranges.x.fits in
    let none : x / 2 ^ 128 * 2 ^ 128 ≡ 0 = omega arith in
    let one : x * 1 ≡ x = omega arith in record {
      left = sym (ap (λ (m : ℕ). m % 2 ^ 128) one ∙ mod-eq_of_lt f);
      taken = sym (ap (λ (m : ℕ). stepwise m h) none ∙ stepwise_zero h);
    }

pub loop-row-preserved : goal.loop-row-preserved
unfolding entry
loop-row-preserved c =
    let s = c.args.self.now in
    let x : ℕ = c.args.x in
    let i : ℕ = c.loop-row.row-index in
    let e : ℕ = 124 - 4 * i in
    let lt : i < 32 = c.loop-row-test.true in
    let up : 128 - 4 * i ≡ e + 4 = omega arith in
    let next : e ≡ 128 - 4 * (i + 1) = omega arith in
    let row = get_or s.table i [] in
    let k : c.loop-row.rest / 2 ^ 124 ≡ x / 2 ^ e % 16 =
    ap (λ (m : ℕ). m / 2 ^ 124) c.loop-row.invariant.left ∙ top_nibble x e (4 * i) (omega arith) in
    let at : get_or row (c.loop-row.rest / 2 ^ 124) 0 ≡ stepwise (x / 2 ^ e % 16 * 2 ^ e) s.h =
    ap (λ (m : ℕ). get_or row m 0) k ∙ s.made i lt (x / 2 ^ e % 16) (omega arith) in record {
      left = ap (λ (m : ℕ). m * 16 % 2 ^ 128) c.loop-row.invariant.left ∙ moved_up x i;
      taken = ap₂ bit_xor (c.loop-row.invariant.taken ∙ ap (λ (m : ℕ). stepwise (x / 2 ^ m * 2 ^ m) s.h) up) at
          ∙ nibble s.h x e ∙ ap (λ (m : ℕ). stepwise (x / 2 ^ m * 2 ^ m) s.h) next;
    }

pub returns : goal.returns
returns c =
    let h : ℕ = c.args.self.now.h in
    let e : 128 - 4 * c.loop-row.row-index ≡ 0 = omega arith in
    let all : c.args.x / 1 * 1 ≡ c.args.x = omega arith in
    c.loop-row.invariant.taken ∙ ap (λ (m : ℕ). stepwise (c.args.x / 2 ^ m * 2 ^ m) h) e
    ∙ ap (λ (x : ℕ). stepwise x h) all
    ∙ sym (product_steps c.args.x h c.args.self.now.block)
