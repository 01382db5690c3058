-- Two blocks of the same bytes are one.
use Rattle.std.proofs.Common.{◌≡◌, ℕ, ◌^◌, ◌<◌, sym, ap, ◌∙◌}
use Rattle.block.specs.Blocks.{to_bytes, to_block}
use Rattle.block.proofs.Bytes.{block_bytes}

pub same_bytes : (m n : ℕ) → m < 2 ^ 128 → n < 2 ^ 128 → to_bytes m ≡ to_bytes n → m ≡ n
same_bytes m n h k e = sym (block_bytes m h) ∙ ap to_block e ∙ block_bytes n k
