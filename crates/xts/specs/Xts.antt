-- XTS of IEEE 1619 on whole blocks, over the functions that a cipher's keys fix.
use Rattle.std.specs.Prelude.{ℕ, ◌*◌, ◌/◌, ◌%◌, ◌^◌, cond, List, length, bit_xor, nat_le}
use Rattle.mode.specs.Modes.{Sealing}
use Rattle.block.specs.Blocks.{walk, swapped}
use Rattle.cipher.specs.declared.Cipher.{Ghosts as CipherMeaning}
use Rattle.xts.specs.declared.Xts.{Xts}

-- twice n in 128 bits; where a top bit falls out, 0x87 is XORed in
abbrev pub twice : ℕ → ℕ
twice n = cond (nat_le (2 ^ 127) n) (bit_xor (n % 2 ^ 127 * 2) 0x87) (n % 2 ^ 127 * 2)

-- T(j + 1) of T(j): the block, read as a number with the lowest byte first, twice
unfoldable pub doubled : ℕ → ℕ
doubled t = swapped (twice (swapped t))

-- block j under its mask T(j): XORed, sealed or opened, XORed again
abbrev pub masked : (ℕ → ℕ) → ℕ → ℕ → ℕ
masked e t b = bit_xor (e (bit_xor b t)) t

-- all blocks of a string, with the first mask t
abbrev pub blockwise : (ℕ → ℕ) → ℕ → List ℕ → List ℕ
blockwise e t xs = walk (masked e) doubled (length xs / 16) t xs

-- XTS by the two functions of the first key and the sealing of the second: T(0) is the tweak sealed under the second key, for opening too
abbrev pub by_functions : (ℕ → ℕ) → (ℕ → ℕ) → (ℕ → ℕ) → Sealing
by_functions e d second = record { sealed = λ t xs. blockwise e (second t) xs; opened = λ t xs. blockwise d (second t) xs }

-- XTS under two keys of a cipher
abbrev pub xts : {C Key : Type 0} → CipherMeaning C Key → Key → Key → Sealing
xts m first second = by_functions (m.sealed first) (m.opened first) (m.sealed second)

-- a made XTS: that of the keys that its ciphers were made from
abbrev pub meaning : {C Key : Type 0} → CipherMeaning C Key → Xts C Key → Sealing
meaning m x = xts m (m.key x.first) (m.key x.second)
