-- AES-128 of FIPS 197: its key expansion, and what a key makes of a block, both ways. A key and a block are numbers, the first byte the highest.
use Rattle.std.specs.Prelude.{ℕ, zero, suc}
use Rattle.aes_math.specs.Field.{xtime}
use Rattle.aes_math.specs.Rounds.{Word, State, add_word, sub_word, rot_word, cipher, inv_cipher, state_of, num_of}

-- Rcon(i) is x^(i-1) in its first byte
unfoldable pub rcon : ℕ → ℕ
rcon zero = 0
rcon (suc zero) = 1
rcon (suc (suc i)) = xtime (rcon (suc i))

-- the four words w(4i) .. w(4i+3) from the four before them
unfoldable pub next_key : ℕ → State → State
next_key r k =
    let a : Word = add_word (add_word k.0 (sub_word (rot_word k.3))) (r, 0, 0, 0) in
    let b : Word = add_word k.1 a in
    let c : Word = add_word k.2 b in
    (a, b, c, add_word k.3 c)

-- round key i of KeyExpansion: the words w(4i) .. w(4i+3)
unfoldable pub round_key : State → ℕ → State
round_key k zero = k
round_key k (suc i) = next_key (rcon (suc i)) (round_key k i)

-- the block n sealed, and opened, under the key k: nine rounds and the last
unfoldable pub sealed : ℕ → ℕ → ℕ
sealed k n = num_of (cipher 9 (round_key (state_of k)) (state_of n))

unfoldable pub opened : ℕ → ℕ → ℕ
opened k n = num_of (inv_cipher 9 (round_key (state_of k)) (state_of n))
