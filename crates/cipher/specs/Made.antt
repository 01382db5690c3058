-- The two functions of a made cipher: those that its key fixes.
use Rattle.std.specs.Prelude.{ℕ}
use Rattle.cipher.specs.declared.Cipher.{Ghosts as CipherMeaning}

abbrev pub sealing : {C Key : Type 0} → CipherMeaning C Key → C → ℕ → ℕ
sealing m c = m.sealed (m.key c)

abbrev pub opening : {C Key : Type 0} → CipherMeaning C Key → C → ℕ → ℕ
opening m c = m.opened (m.key c)
