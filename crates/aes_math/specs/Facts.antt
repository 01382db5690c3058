-- What the definitions are held to.
use Rattle.std.specs.Prelude.{◌≡◌, ℕ, ◌<◌}
use Rattle.aes_math.specs.Field.{mul, inverse, affine, sbox, inv_sbox}
use Rattle.aes_math.specs.Rounds.{Word, State, cipher, inv_cipher}

-- b times its inverse is 1, unless b is 0
abbrev pub Inverses : Type 0
Inverses = (b : ℕ) → 0 < b → b < 256 → mul b (inverse b) ≡ 1

-- the substitution is the inverse (0 for 0) put through the affine map, and is undone both ways
pub record Substitution : Type 0 where
  pub rule : (b : ℕ) → sbox b ≡ affine (inverse b)
  pub inverses : Inverses
  pub zero : inverse 0 ≡ 0
  pub opens : (b : ℕ) → b < 256 → inv_sbox (sbox b) ≡ b
  pub seals : (b : ℕ) → b < 256 → sbox (inv_sbox b) ≡ b

-- the two worked products of FIPS 197, section 4.2
abbrev pub Products : Type 0
Products = (mul 0x57 0x83 ≡ 0xc1) × (mul 0x57 0x13 ≡ 0xfe)

-- words and states of bytes
abbrev pub Bytes : Word → Type 0
Bytes w = (w.0 < 256) × (w.1 < 256) × (w.2 < 256) × (w.3 < 256)

abbrev pub ByteState : State → Type 0
ByteState s = Bytes s.0 × Bytes s.1 × Bytes s.2 × Bytes s.3

-- InvCipher undoes Cipher and Cipher undoes InvCipher, for any number of rounds and any round keys
abbrev pub Ciphers : Type 0
Ciphers =
    (n : ℕ) (ks : ℕ → State) → ((i : ℕ) → ByteState (ks i)) → (s : State) → ByteState s
    → (inv_cipher n ks (cipher n ks s) ≡ s) × (cipher n ks (inv_cipher n ks s) ≡ s)
