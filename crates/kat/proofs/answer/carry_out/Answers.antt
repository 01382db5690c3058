use Rattle.std.proofs.Common.{refl, ◌∙◌}
use Rattle.kat.specs.declared.request.CipherName.TheVariants.{Aes128, Speck}
use Rattle.kat.proofs.Texts.{same_task}
use Rattle.kat.proofs.answer.carry_out.Goals as goal

pub returns-in-Cipher-Aes128-default : goal.returns-in-Cipher-Aes128-default
returns-in-Cipher-Aes128-default c =
    let e = c.by_cipher.ensures ∙ same_task _ Aes128 (λ k n. refl) (λ k n. refl) (λ a b. refl) (λ k. refl) c.in-Cipher-Aes128-default.task in
    cc

pub returns-in-Cipher-Speck-default : goal.returns-in-Cipher-Speck-default
returns-in-Cipher-Speck-default c =
    let e = c.by_cipher-in-Cipher-Speck-default.ensures ∙ same_task _ Speck (λ k n. refl) (λ k n. refl) (λ a b. refl) (λ k. refl) c.in-Cipher-Speck-default.task in
    cc
