-- Words `hex:` and digits.
use Rattle.std.proofs.Common.{◌≡◌, ℕ, ◌≤◌, true, List, ◌++◌, length, take, drop, refl, sym, ap, ◌∙◌, arith}
use Rattle.std.specs.Prelude.{codes}
use Rattle.std.specs.Str.{bytes_eq}
use Rattle.std.proofs.lemmas.Slice.Eq.{bytes_eq-Decides}
use Rattle.std.proofs.lemmas.List.{length-append, take-append-drop}
use Rattle.mm_script.specs.Reading.{front, behind}

pub hex_text : (text : List ℕ) → bytes_eq (take 4 text) (codes "hex:") ≡ true → text ≡ codes "hex:" ++ drop 4 text
hex_text text is = sym (take-append-drop 4 text) ∙ ap (λ (t : List ℕ). t ++ drop 4 text) ((bytes_eq-Decides (take 4 text) (codes "hex:")).0 is)

pub front_hex : (digits : List ℕ) → front (codes "hex:" ++ digits) ≡ codes "hex:" ++ front digits
unfolding front
front_hex digits = refl

pub behind_hex : (digits : List ℕ) → behind (codes "hex:" ++ digits) ≡ behind digits
unfolding behind
behind_hex digits = refl

pub hex_long : (text : List ℕ) → bytes_eq (take 4 text) (codes "hex:") ≡ true → 4 ≤ length (front text)
hex_long text is =
    let whole : front text ≡ codes "hex:" ++ front (drop 4 text) = ap front (hex_text text is) ∙ front_hex (drop 4 text) in
    let size : length (front text) ≡ length (codes "hex:" ++ front (drop 4 text)) = ap length whole in
    omega (arith, size, length-append (codes "hex:") (front (drop 4 text)))
