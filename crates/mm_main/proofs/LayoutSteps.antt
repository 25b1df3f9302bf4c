-- Records that lie back to back, each with the length that is due for its document.
use Rattle.std.proofs.Common.{◌≡◌, ℕ, suc, eqb, pos, ◌+◌, ◌<◌, ◌≤◌, ◌^◌, List, [], ◌∷◌, ◌++◌, length, drop, get_or, refl, sym, ap, ◌∙◌, arith, subst, append_assoc, drop-cons, Result, Ok, Err, inr}
use Rattle.std.specs.Int.{w32, cast_signed}
use Rattle.std.proofs.lemmas.Int.{to_z_pos}
use Rattle.std.proofs.lemmas.List.{length_push, drop_all}
use Rattle.mm_base.specs.Bytes.{part}
use Rattle.mm_base.specs.Fields.{i32_of, u32_of, u32_bytes}
use Rattle.mm_base.proofs.Numbers.{u32_again, length-u32_bytes}
use Rattle.mm_base.proofs.Parts.{part_front, part_first}
use Rattle.mm_bson.specs.Tree.{Elements}
use Rattle.mm_bson.specs.Spelling.{IsDocument, spelling, framed, elements_spelling}
use Rattle.mm_bson.specs.Reading.{whole}
use Rattle.mm_bson.proofs.Again.{whole_again}
use Rattle.mm_bson.proofs.Building.{spelling_len}
use Rattle.mm_main.specs.declared.finding.What.{What}
use Rattle.mm_main.specs.declared.finding.What.TheVariants.{Tiling}
use Rattle.std.specs.Bool.{MatchBool}
use Rattle.std.proofs.lemmas.Bool.{eqb-true, false_from_ne_true}
use Rattle.mm_frames.specs.DeletedHeader.{deleted_header_of}
use Rattle.mm_frames.specs.declared.deleted_header.DeletedHeader.{DeletedHeader}
use Rattle.mm_frames.proofs.Again.{deleted_header_is}
use Rattle.mm_main.specs.Opening.{TakesRest}
use Rattle.mm_main.specs.declared.finding.Unreadable.{Unreadable}
use Rattle.mm_main.specs.declared.finding.Unreadable.TheVariants.{Found, NoMemory}
use Rattle.mm_main.specs.DataFile.{IsRest, IsDeletedBlock, rest_from}
use Rattle.mm_main.specs.Findings.{IfFound, Announces, IsDue, Begins, IsMislaid, FailsAt, IsLaid, next_at, offsets, end_of, AreLaid, IsLaidUpTo, IsTiled, FailsNext, Breaks}
use Rattle.mm_main.specs.Room.{file_len, first_at, block_len}

-- ---- a document begins with its length

spelling_begins : (doc : Elements) → length (spelling doc) < 2 ^ 31 → i32_of (part 0 4 (spelling doc)) ≡ pos (length (spelling doc))
unfolding spelling framed i32_of u32_of u32_bytes
spelling_begins doc small =
    let n = length (elements_spelling doc) + 5 in
    let long : length (spelling doc) ≡ n = spelling_len doc in
    ap (λ (bytes : List ℕ). i32_of bytes) (part_first 4 (u32_bytes n) (elements_spelling doc ++ 0 ∷ []) (length-u32_bytes n))
    ∙ ap (cast_signed w32) (u32_again n (omega arith)) ∙ to_z_pos w32 n (omega arith) ∙ ap pos (sym long)

-- a record's document is announced with its length
pub announced : (file : List ℕ) (at : ℕ) (doc : Elements) → Begins file at doc → Announces file at (length (spelling doc))
announced file at doc b =
    let long : 5 ≤ length (spelling doc) = omega (arith, spelling_len doc) in
    record {
      begins = ap i32_of (sym (part_front 4 (at + 16) (length (spelling doc)) file (omega arith)) ∙ ap (part 0 4) b.bytes) ∙ spelling_begins doc (omega (arith, b.document.short));
      least = long;
      most = b.document.short;
    }

-- one length is announced
pub one_announced : (file : List ℕ) (at m n : ℕ) → Announces file at m → Announces file at n → m ≡ n
one_announced file at m n a b = let same : pos m ≡ pos n = sym a.begins ∙ b.begins in cc

-- one document has these bytes
pub one_document : (a b : Elements) → IsDocument a → IsDocument b → spelling a ≡ spelling b → a ≡ b
one_document a b is_a is_b same = let e : ◌≡◌ {A = Result Elements _} (Ok a) (Ok b) = sym (whole_again a is_a) ∙ ap whole same ∙ whole_again b is_b in cc

-- one document begins in a record's room
pub one_begins : (file : List ℕ) (at : ℕ) (a b : Elements) → Begins file at a → Begins file at b → a ≡ b
one_begins file at a b is_a is_b =
    let same = one_announced file at _ _ (announced file at a is_a) (announced file at b is_b) in
    one_document a b is_a.document is_b.document (sym is_a.bytes ∙ ap (λ (n : ℕ). part (at + 16) n file) same ∙ is_b.bytes)

-- a record that holds a document isn't wrong
pub laid_is_right : (file : List ℕ) (at : ℕ) (doc : Elements) → IsLaid file at doc → IsMislaid file at → ⊥
laid_is_right file at doc laid wrong = wrong.2 (subst (λ (n : ℕ). IsDue file at n) (one_announced file at _ _ (announced file at doc laid.begins) wrong.1) laid.due)

-- ---- one document more

pub offsets_push : (at : ℕ) (docs : List Elements) (doc : Elements) → offsets at (docs ++ doc ∷ []) ≡ offsets at docs ++ end_of at docs ∷ []
offsets_push at [] doc = refl
offsets_push at (one ∷ docs) doc = ap (λ (ats : List ℕ). at ∷ ats) (offsets_push (next_at at one) docs doc)

pub end_push : (at : ℕ) (docs : List Elements) (doc : Elements) → end_of at (docs ++ doc ∷ []) ≡ next_at (end_of at docs) doc
end_push at [] doc = refl
end_push at (one ∷ docs) doc = end_push (next_at at one) docs doc

pub laid_push : (file : List ℕ) (at : ℕ) (docs : List Elements) (doc : Elements) → AreLaid file at docs → IsLaid file (end_of at docs) doc → AreLaid file at (docs ++ doc ∷ [])
laid_push file at [] doc laid here = (here, tt)
laid_push file at (one ∷ docs) doc laid here = (laid.0, laid_push file (next_at at one) docs doc laid.1 here)

-- ---- the records so far

-- these documents are laid, the records from an index on are left, and the next one is due at an offset
pub record Reading (file ats : List ℕ) (docs : List Elements) (i at : ℕ) : Type 0 where
  pub laid : IsLaidUpTo file docs (drop i ats) ats
  pub due : at ≡ end_of first_at docs
  pub count : length docs ≡ i
  pub inside : at ≤ file_len
  pub no_crumb : at < file_len → at + 32 ≤ file_len

pub reading_first : (file ats : List ℕ) → Reading file ats [] 0 first_at
reading_first file ats = record { laid = record { places = refl; laid = tt }; due = refl; count = refl; inside = omega arith; no_crumb = λ some. omega arith }

pub reading_more : (file ats : List ℕ) (docs : List Elements) (doc : Elements) (i at len d : ℕ) → Reading file ats docs i at → i < length ats → get_or ats i d ≡ at → IsLaid file at doc
    → len ≡ block_len at (length (spelling doc)) → at + len ≤ file_len → (at + len < file_len → at + len + 32 ≤ file_len) → Reading file ats (docs ++ doc ∷ []) (i + 1) (at + len)
reading_more file ats docs doc i at len d r within here laid is inside no_crumb =
    let next : suc i ≡ i + 1 = omega arith in
    let left : drop i ats ≡ at ∷ drop (i + 1) ats = drop-cons ats i d within ∙ ap (λ (x : ℕ). x ∷ drop (suc i) ats) here ∙ ap (λ (n : ℕ). at ∷ drop n ats) next in
    record {
      laid = record {
        places = r.laid.places ∙ ap (λ (xs : List ℕ). offsets first_at docs ++ xs) (left ∙ ap (λ (x : ℕ). x ∷ drop (i + 1) ats) r.due) ∙ sym (append_assoc (offsets first_at docs) (end_of first_at docs ∷ []) (drop (i + 1) ats))
            ∙ ap (λ (xs : List ℕ). xs ++ drop (i + 1) ats) (sym (offsets_push first_at docs doc));
        laid = laid_push file first_at docs doc r.laid.laid (subst (λ (x : ℕ). IsLaid file x doc) r.due laid);
      };
      due = ap (λ (n : ℕ). at + n) is ∙ ap (λ (x : ℕ). next_at x doc) r.due ∙ sym (end_push first_at docs doc);
      count = omega (arith, r.count, length_push docs doc);
      inside = inside;
      no_crumb = no_crumb;
    }

-- what is left, where the next record is the one at an index
pub others_from : (file ats : List ℕ) (docs : List Elements) (i at d : ℕ) → Reading file ats docs i at → i < length ats → IsLaidUpTo file docs (get_or ats i d ∷ drop (suc i) ats) ats
others_from file ats docs i at d r within = record { places = r.laid.places ∙ ap (λ (xs : List ℕ). offsets first_at docs ++ xs) (drop-cons ats i d within); laid = r.laid.laid }

pub breaks_at : (file ats : List ℕ) (docs : List Elements) (i at d : ℕ) (what : What) → Reading file ats docs i at → i < length ats → FailsNext file docs (get_or ats i d ∷ drop (suc i) ats) at what → Breaks file ats at what
breaks_at file ats docs i at d what r within fails = (docs, get_or ats i d ∷ drop (suc i) ats, others_from file ats docs i at d r within, r.due, fails)

-- a record that fails by its own bytes
pub fails_next : (file : List ℕ) (docs : List Elements) (others : List ℕ) (at place : ℕ) (what : What) → place ≡ at → FailsAt file at what → FailsNext file docs (place ∷ others) at what
fails_next file docs others at place Tiling here fails = inr fails
fails_next file docs others at place what here fails = (here, fails)

-- all records are laid
pub laid_all : (file ats : List ℕ) (docs : List Elements) (i at : ℕ) → Reading file ats docs i at → length ats ≤ i → IsLaidUpTo file docs [] ats
laid_all file ats docs i at r past = record { places = r.laid.places ∙ ap (λ (xs : List ℕ). offsets first_at docs ++ xs) (drop_all i ats past); laid = r.laid.laid }

pub tiled_all : (file ats : List ℕ) (docs : List Elements) (i at : ℕ) → Reading file ats docs i at → length ats ≤ i → 0 < length docs → IsRest file at → IsTiled file docs ats
tiled_all file ats docs i at r past some rest = record { laid = laid_all file ats docs i at r past; some = some; rest = subst (λ (x : ℕ). IsRest file x) r.due rest }

pub breaks_behind : (file ats : List ℕ) (docs : List Elements) (i at : ℕ) → Reading file ats docs i at → length ats ≤ i → (0 < length docs → IsRest file at → ⊥) → Breaks file ats at Tiling
breaks_behind file ats docs i at r past fails = (docs, [], laid_all file ats docs i at r past, r.due, fails)

-- ---- what is left behind the last record

pub block_of : (file : List ℕ) (at : ℕ) (h : DeletedHeader) → h ≡ deleted_header_of (part at 16 file) → TakesRest h at → IsDeletedBlock file at
unfolding deleted_header_of
block_of file at h is t = (
  sym (ap (λ (x : DeletedHeader). x.length_with_headers) is) ∙ t.len,
  (sym (ap (λ (x : DeletedHeader). x.extent_ofs) is) ∙ t.of_extent, (sym (ap (λ (x : DeletedHeader). x.next_deleted) is) ∙ t.next, tt)),
)

pub takes_of : (file : List ℕ) (at : ℕ) (h : DeletedHeader) → h ≡ deleted_header_of (part at 16 file) → IsDeletedBlock file at → TakesRest h at
takes_of file at h is block =
    let all : h ≡ rest_from at = is ∙ deleted_header_is (rest_from at) (part at 16 file) block in
    record {
      len = ap (λ (x : DeletedHeader). x.length_with_headers) all;
      of_extent = ap (λ (x : DeletedHeader). x.extent_ofs) all;
      next = ap (λ (x : DeletedHeader). x.next_deleted) all;
    }

pub block_if_some : (file : List ℕ) (at : ℕ) → (at ≡ file_len → ⊥) → IsRest file at → IsDeletedBlock file at
block_if_some file at some rest = subst (λ b. MatchBool b (Unit {0}) (IsDeletedBlock file at)) (false_from_ne_true (eqb at file_len) (λ same. some (eqb-true at file_len same))) rest

-- ---- findings by a reader's answer

pub if_found_then : (T U : Type 0) (r : Unreadable) (P Q : ℕ → What → Type 0) → ((at : ℕ) (what : What) → P at what → Q at what) → IfFound {T = T} (Err r) P → IfFound {T = U} (Err r) Q
if_found_then T U (Found finding) P Q then found = then finding.at finding.what found
if_found_then T U NoMemory P Q then found = tt
