-- XCB version 2 on whole blocks, with a tweak of one block and the XOR counter. A text is ML, all but its last block, and then MR.
use Rattle.std.specs.Prelude.{◌≡◌, ℕ, ◌+◌, ◌-◌, ◌*◌, ◌/◌, ◌^◌, true, false, Ok, Err, Result, List, [], ◌∷◌, ◌++◌, length, take, drop, bit_xor}
use Rattle.refusal.specs.declared.Refusal.{Refusal}
use Rattle.refusal.specs.Refusals.{number_of}
use Rattle.mode.specs.Modes.{Sealing, permitted}
use Rattle.block.specs.Blocks.{blocks_of, walk, to_bytes, to_block}
use Rattle.field.specs.Field.{hash}
use Rattle.cipher.specs.declared.Cipher.{Ghosts as CipherMeaning}
use Rattle.cipher.specs.Made.{sealing, opening}
use Rattle.xcb.specs.declared.Frame.{Frame}
use Rattle.xcb.specs.declared.Frames.{Frames}
use Rattle.xcb.specs.declared.Xcb.{Xcb}

-- block j of the left part, from 0, is XORed with the sealing of Z XOR Num(j)
abbrev pub masked : (ℕ → ℕ) → ℕ → ℕ → ℕ
masked c mask b = bit_xor b (c mask)

abbrev pub counted : (ℕ → ℕ) → ℕ → ℕ → ℕ → ℕ
counted c z j b = masked c (bit_xor z j) b

abbrev pub next : ℕ → ℕ
next j = j + 1

-- the n blocks of the left part under the stream of Z
abbrev pub streamed : (ℕ → ℕ) → ℕ → ℕ → List ℕ → List ℕ
streamed c z n xs = walk (counted c z) next n 0 xs

-- what is hashed: the left part in its frame, two blocks before it and one behind
abbrev pub in_frame : Frame → List ℕ → List ℕ
in_frame f bs = f.first ∷ (f.second ∷ (bs ++ (f.last ∷ [])))

unfoldable pub digest : ℕ → Frame → List ℕ → ℕ
digest h f bs = hash h (in_frame f bs)

-- Z: MR through e, XOR the hash of ML
unfoldable pub middle : (ℕ → ℕ) → ℕ → Frame → ℕ → List ℕ → ℕ
middle e h f n xs = bit_xor (e (to_block (drop (16 * n) xs))) (digest h f (blocks_of n (take (16 * n) xs)))

-- CL, which is ML under the stream of Z; then CR, which is d of Z XOR the hash of CL
unfoldable pub finished : (ℕ → ℕ) → (ℕ → ℕ) → ℕ → Frame → ℕ → ℕ → List ℕ → List ℕ
finished d c h f n z left = streamed c z n left ++ to_bytes (d (bit_xor z (digest h f (blocks_of n (streamed c z n left)))))

unfoldable pub passed : (ℕ → ℕ) → (ℕ → ℕ) → (ℕ → ℕ) → ℕ → Frames → ℕ → List ℕ → List ℕ
passed e d c h fs n xs = finished d c h fs.after n (middle e h fs.before n xs) (take (16 * n) xs)

-- around ML: the zero block, the tweak, ML, the zero block
abbrev pub outer : ℕ → Frame
outer t = record { first = 0; second = t; last = 0 }

-- 256 in 8 bytes, then the bits of CL in 8 bytes, where CL has n blocks
abbrev pub length_block : ℕ → ℕ
length_block n = 256 * 2 ^ 64 + 8 * (16 * n)

-- around CL: the tweak, the zero block, CL, the length block
abbrev pub inner : ℕ → ℕ → Frame
inner t n = record { first = t; second = 0; last = length_block n }

-- sealing hashes before the stream in the outer frame and after it in the inner one, opening the other way round
abbrev pub sealing_frames : ℕ → ℕ → Frames
sealing_frames t n = record { before = outer t; after = inner t n }

abbrev pub opening_frames : ℕ → ℕ → Frames
opening_frames t n = record { before = inner t n; after = outer t }

-- the left part's blocks of a text of m bytes, or the refusal of its length
abbrev pub LeftBlocks : ℕ → Result ℕ Refusal → Type 0
LeftBlocks m (Ok n) = (permitted m ≡ true) × (n ≡ m / 16 - 1)
LeftBlocks m (Err e) = (permitted m ≡ false) × (number_of e ≡ 1)

-- a whole text, of the left part's blocks and the last one
abbrev pub turned : (ℕ → ℕ) → (ℕ → ℕ) → (ℕ → ℕ) → ℕ → (ℕ → ℕ → Frames) → ℕ → List ℕ → List ℕ
turned e d c h fs t xs = passed e d c h (fs t (length xs / 16 - 1)) (length xs / 16 - 1) xs

-- XCB by the functions of Ke, Kd and Kc, and by Kh: sealing seals MR under Ke and opens under Kd, opening seals under Kd and opens under Ke
abbrev pub by_functions : (ℕ → ℕ) → (ℕ → ℕ) → (ℕ → ℕ) → (ℕ → ℕ) → (ℕ → ℕ) → ℕ → Sealing
by_functions e e⁻ d d⁻ c h =
    record {
      sealed = λ t xs. turned e d⁻ c h sealing_frames t xs;
      opened = λ t xs. turned d e⁻ c h opening_frames t xs;
    }

-- XCB under a key: Kh is the sealing of Num(0), and Ke, Kd and Kc are drawn from Num(1), Num(3) and Num(5) on
abbrev pub xcb : {C Key : Type 0} → CipherMeaning C Key → Key → Sealing
xcb m key =
    let e = m.drawn (m.sealed key) 1 in
    let d = m.drawn (m.sealed key) 3 in
    let c = m.drawn (m.sealed key) 5 in
    by_functions (m.sealed e) (m.opened e) (m.sealed d) (m.opened d) (m.sealed c) (m.sealed key 0)

-- a made XCB, by its ciphers and its hash key
abbrev pub meaning : {C Key : Type 0} → CipherMeaning C Key → Xcb C Key → Sealing
meaning m x =
    by_functions (sealing m x.front) (opening m x.front) (sealing m x.back) (opening m x.back) (sealing m x.counter) x.hash_key.h
