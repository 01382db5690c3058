-- What the definitions are held to.
use Rattle.std.specs.Prelude.{◌≡◌, ℕ, zero, suc, ◌+◌, ◌*◌, ◌/◌, ◌%◌}
use Rattle.cipher.specs.Ciphers.{Undoing}
use Rattle.aes_math.specs.Rounds.{Word, State, add_word, sub_word, rot_word}
use Rattle.aes.specs.Aes128.{rcon, round_key, sealed, opened}

-- the example of FIPS 197, appendix C.1, both ways
abbrev pub Example : Type 0
Example =
    (sealed 0x000102030405060708090a0b0c0d0e0f 0x00112233445566778899aabbccddeeff ≡ 0x69c4e0d86a7b0430d8cdb78070b4c55a)
    × (opened 0x000102030405060708090a0b0c0d0e0f 0x69c4e0d86a7b0430d8cdb78070b4c55a ≡ 0x00112233445566778899aabbccddeeff)

-- under every key, each function undoes the other on every block
abbrev pub Undone : Type 0
Undone = (k : ℕ) → Undoing (sealed k) (opened k)

-- what KeyExpansion adds to w(i - 4): w(i - 1), or where i is a multiple of 4 its bytes turned and substituted, plus Rcon(i / 4)
abbrev pub temp : ℕ → ℕ → Word → Word
temp i zero w = add_word (sub_word (rot_word w)) (rcon (i / 4), 0, 0, 0)
temp i (suc r) w = w

-- the words w(i) of KeyExpansion
unfoldable pub w : State → ℕ → Word
w k zero = k.0
w k (suc zero) = k.1
w k (suc (suc zero)) = k.2
w k (suc (suc (suc zero))) = k.3
w k (suc (suc (suc (suc i)))) = add_word (w k i) (temp (suc (suc (suc (suc i)))) (suc (suc (suc (suc i))) % 4) (w k (suc (suc (suc i)))))

-- the round keys are the words of KeyExpansion, four by four
abbrev pub Words : Type 0
Words = (k : State) (i : ℕ) → round_key k i ≡ (w k (4 * i), w k (4 * i + 1), w k (4 * i + 2), w k (4 * i + 3))
