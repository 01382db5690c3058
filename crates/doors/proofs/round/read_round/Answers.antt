-- A turn reads one door more; the first place with none is the end.
use Rattle.std.proofs.Common.{◌≡◌, ◌/◌, length, take, vec_items, subst, rules, arith}
use Rattle.std.proofs.lemmas.List.{take_all}
use Rattle.doors.proofs.Readings.{HoldsEach, held_image, held_places, reading_end, reading_none}
use Rattle.doors.proofs.round.read_round.Goals as goal
use Rattle.doors.proofs.round.read_round.Goals.{else-loop-bytes-test, then-loop-bytes-test+in_default}

pub returns : goal.returns
returns c =
    let image = c.args.image.now in
    let chunks = c.as_chunks.result.0.now in
    let places = take 42 chunks in
    let ds = vec_items c.loop-bytes.doors in
    let i = c.loop-bytes.bytes-index in
    let long : length c.args.image.now ≡ 1024 = search rules in
    let n : length chunks ≡ length image / 24 = c.as_chunks.ensures.front_len in
    let whole : places ≡ chunks = take_all 42 chunks (omega arith) in
    let each : HoldsEach places ds = elim c.loop-bytes-test.branch [
      | else-loop-bytes-test w ↦ reading_end places ds i w.loop-bytes-test.false c.loop-bytes.invariant
      | then-loop-bytes-test+in_default w ↦ reading_none places ds i w.loop-bytes-test.true w.in_default.ensures.cases c.loop-bytes.invariant
    ] in
    let h = held_places image ds long c.as_chunks.ensures.front (subst (λ ps. HoldsEach ps ds) whole each) in
    record { made = h; back = held_image image _ h }
