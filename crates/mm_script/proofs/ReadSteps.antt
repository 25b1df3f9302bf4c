-- Lines and inserts, step by step.
use Rattle.std.proofs.Common.{◌≡◌, ℕ, Bool, true, false, cond, List, ◌∷◌, Ok, Err, refl, sym, ap, ◌∙◌}
use Rattle.std.specs.Str.{is_utf8, IsUtf8}
use Rattle.std.proofs.lemmas.Str.{IsUtf8-from_is_utf8}
use Rattle.mm_bson.specs.Tree.{Elements}
use Rattle.mm_model.specs.declared.command.Command.TheVariants.{Insert}
use Rattle.mm_model.specs.WellFormed.{is_collection_name}
use Rattle.mm_script.specs.declared.commands.Place.{Place}
use Rattle.mm_script.specs.declared.fault.LineWhat.TheVariants.{Collection, Utf8}
use Rattle.mm_script.specs.Documents.{made_id, with_id}
use Rattle.mm_script.specs.Form.{document}
use Rattle.mm_script.specs.Grammar.{Setting, insert_form, closing, line_form}
use Rattle.mm_script.specs.Reading.{◌>>=◌, part_at, document_at, read, line_at}

pub insert_reads : (stamp : ℕ) (p : Place) (text coll rest behind : List ℕ) (d new : Elements) → part_at Collection is_collection_name text ≡ Ok (coll, rest) → document_at rest ≡ Ok (d, behind)
    → new ≡ with_id (made_id stamp p.session p.line) d → read (insert_form stamp p) text ≡ read (closing p (Insert coll new)) behind
unfolding insert_form
insert_reads stamp p text coll rest behind d new named found moved =
    ap (λ r. r >>= λ w. read (document λ e. closing p (Insert w.0 (with_id (made_id stamp p.session p.line) e))) w.1) named
    ∙ ap (λ r. r >>= λ e. read (closing p (Insert coll (with_id (made_id stamp p.session p.line) e.0))) e.1) found
    ∙ ap (λ e. read (closing p (Insert coll e)) behind) (sym moved)

pub line_reads : (s : Setting) (n : ℕ) (line : List ℕ) → is_utf8 line ≡ true → line_at s n line ≡ read (line_form s n) (0x20 ∷ line)
unfolding line_at
line_reads s n line is = ap (λ b. cond b (read (line_form s n) (0x20 ∷ line)) (Err Utf8)) is

pub line_fails : (s : Setting) (n : ℕ) (line : List ℕ) → is_utf8 line ≡ false → line_at s n line ≡ Err Utf8
unfolding line_at
line_fails s n line is = ap (λ b. cond b (read (line_form s n) (0x20 ∷ line)) (Err Utf8)) is

pub not_text : (line : List ℕ) → (IsUtf8 line → ⊥) → is_utf8 line ≡ false
not_text line fails = by (is_utf8 line) refl
  where
    by : (b : Bool) → is_utf8 line ≡ b → b ≡ false
    by true e = absurd (fails (IsUtf8-from_is_utf8 line e))
    by false e = refl
