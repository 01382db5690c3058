-- Opening undoes sealing and sealing undoes opening, on every block and key.
use Rattle.std.specs.Prelude.{◌≡◌, ℕ, zero, suc, ◌^◌, ◌<◌}
use Rattle.std.proofs.Common.{ap, ◌∙◌, arith}
use Rattle.aes_math.specs.Rounds.{Word, State, add_word, sub_word, rot_word, cipher, inv_cipher, num_word, state_of, num_of}
use Rattle.aes.specs.Facts.{Undone}
use Rattle.aes.specs.Aes128.{round_key, next_key, rcon, sealed, opened}
use Rattle.aes_math.proofs.FieldLaws.{xtime_lt}
use Rattle.aes_math.proofs.ByteLaws.{sbox_lt}
use Rattle.aes_math.proofs.NumLaws.{state_bytes, state_num, num_state}
use Rattle.aes_math.specs.Facts.{Bytes, ByteState}
use Rattle.aes_math.proofs.StateLaws.{add_bytes, cipher_bytes, inv_cipher_bytes, inv_cipher-cipher, cipher-inv_cipher}

-- ---- the round keys are bytes

rcon_lt : (i : ℕ) → rcon i < 256
unfolding rcon
rcon_lt zero = omega arith
rcon_lt (suc zero) = omega arith
rcon_lt (suc (suc i)) = xtime_lt (rcon (suc i))

next_bytes : (r : ℕ) (k : State) → r < 256 → ByteState k → ByteState (next_key r k)
unfolding next_key
next_bytes r k hr h =
    let s : Word = sub_word (rot_word k.3) in
    let hs : Bytes s = (sbox_lt k.3.1 h.3.1, sbox_lt k.3.2 h.3.2, sbox_lt k.3.3 h.3.3, sbox_lt k.3.0 h.3.0) in
    let a : Word = add_word (add_word k.0 s) (r, 0, 0, 0) in
    let ha : Bytes a = add_bytes (add_word k.0 s) (r, 0, 0, 0) (add_bytes k.0 s h.0 hs) (hr, omega arith, omega arith, omega arith) in
    let b : Word = add_word k.1 a in
    let hb : Bytes b = add_bytes k.1 a h.1 ha in
    let c : Word = add_word k.2 b in
    let hc : Bytes c = add_bytes k.2 b h.2 hb in
    (ha, hb, hc, add_bytes k.3 c h.3 hc)

pub round_key_bytes : (k : State) → ByteState k → (i : ℕ) → ByteState (round_key k i)
unfolding round_key
round_key_bytes k h zero = h
round_key_bytes k h (suc i) = next_bytes (rcon (suc i)) (round_key k i) (rcon_lt (suc i)) (round_key_bytes k h i)

pub opened_sealed : (k n : ℕ) → n < 2 ^ 128 → opened k (sealed k n) ≡ n
unfolding sealed opened
opened_sealed k n h =
    let ks : ℕ → State = round_key (state_of k) in
    let hk : (i : ℕ) → ByteState (ks i) = round_key_bytes (state_of k) (state_bytes k) in
    ap (λ (s : State). num_of (inv_cipher 9 ks s)) (state_num (cipher 9 ks (state_of n)) (cipher_bytes ks hk 9 (state_of n) (state_bytes n)))
    ∙ ap num_of (inv_cipher-cipher ks hk 9 (state_of n) (state_bytes n))
    ∙ num_state n h

pub sealed_opened : (k n : ℕ) → n < 2 ^ 128 → sealed k (opened k n) ≡ n
unfolding sealed opened
sealed_opened k n h =
    let ks : ℕ → State = round_key (state_of k) in
    let hk : (i : ℕ) → ByteState (ks i) = round_key_bytes (state_of k) (state_bytes k) in
    ap (λ (s : State). num_of (cipher 9 ks s)) (state_num (inv_cipher 9 ks (state_of n)) (inv_cipher_bytes ks hk 9 (state_of n) (state_bytes n)))
    ∙ ap num_of (cipher-inv_cipher ks hk 9 (state_of n) (state_bytes n))
    ∙ num_state n h

word_below : (w : Word) → Bytes w → num_word w < 2 ^ 32
word_below w h = let a = h.0 in let b = h.1 in let c = h.2 in let d = h.3 in omega arith

num_below : (s : State) → ByteState s → num_of s < 2 ^ 128
unfolding num_of
num_below s h =
    let a = word_below s.0 h.0 in
    let b = word_below s.1 h.1 in
    let c = word_below s.2 h.2 in
    let d = word_below s.3 h.3 in
    omega arith

pub sealed_below : (k n : ℕ) → sealed k n < 2 ^ 128
unfolding sealed
sealed_below k n = num_below _ (cipher_bytes (round_key (state_of k)) (round_key_bytes (state_of k) (state_bytes k)) 9 (state_of n) (state_bytes n))

pub opened_below : (k n : ℕ) → opened k n < 2 ^ 128
unfolding opened
opened_below k n = num_below _ (inv_cipher_bytes (round_key (state_of k)) (round_key_bytes (state_of k) (state_bytes k)) 9 (state_of n) (state_bytes n))

pub undone : Undone
undone k = record { sealed_below = λ n h. sealed_below k n; opened_below = λ n h. opened_below k n; opens = opened_sealed k; seals = sealed_opened k }
