-- There is one dump of the files of a disk.
use Rattle.std.proofs.Common.{◌≡◌, ◌≢◌, ℕ, negsuc, inl, inr, true, List, [], ◌∷◌, ◌++◌, length, is_some, refl, sym, ap, ◌∙◌, arith, subst, append-nil, Some}
use Rattle.std.specs.FinMap.{keys, contains_key-keys}
use Rattle.std.specs.List.{list_any}
use Rattle.std.specs.Ordering.{eq_by_cmp}
use Rattle.std.proofs.lemmas.Bool.{true≢false, or_left, or_right}
use Rattle.mm_base.specs.Bytes.{part, padded}
use Rattle.mm_base.specs.declared.place.DiskLoc.{DiskLoc}
use Rattle.mm_base.proofs.NameLaws.{length-padded}
use Rattle.mm_frames.specs.declared.extent_header.ExtentHeader.{ExtentHeader}
use Rattle.mm_frames.proofs.Again.{extent_header_is}
use Rattle.mm_bson.specs.Tree.{Elements}
use Rattle.mm_outside.specs.Image.{Image, name_cmp}
use Rattle.mm_outside.proofs.Places.{same_name}
use Rattle.mm_main.specs.declared.chain.Link.TheVariants.{End}
use Rattle.mm_main.specs.declared.status.Status.{Status}
use Rattle.mm_main.specs.declared.status.Status.TheVariants as status
use Rattle.mm_main.specs.Contents.{HoldsDocs, Shows, full_name, doc_lines}
use Rattle.mm_main.specs.DataFile.{namespace_of}
use Rattle.mm_main.specs.Dumps.{IsADump, DumpsFile, IsAlone, IsStray, IsTheDump}
use Rattle.mm_main.specs.Findings.{extent_linking, place_link, IsOpened, Leads, offsets, end_of}
use Rattle.mm_main.specs.Room.{extent_at, first_at}
use Rattle.mm_main.specs.Stored.{file_name}
use Rattle.mm_main.specs.Texts.{present_text, finding_text}
use Rattle.mm_main.proofs.FindingSteps.{goes_on, same_all, laid_on, whole_of, Whole, same_ends, excludes}
use Rattle.mm_main.proofs.HeaderSteps.{one_header, name_of_collection, one_name}
use Rattle.mm_main.proofs.OneFinding.{one_finding}

-- ---- the names

one_stray : (a b : List ℕ) (names : List (List ℕ)) → IsStray a names → IsStray b names → a ≡ b
one_stray a b [] first second = absurd first
one_stray a b (name ∷ names) (inl x) (inl y) = x.1 ∙ sym y.1
one_stray a b (name ∷ names) (inl x) (inr y) = absurd (x.0 y.0)
one_stray a b (name ∷ names) (inr x) (inl y) = absurd (y.0 x.0)
one_stray a b (name ∷ names) (inr x) (inr y) = one_stray a b names x.1 y.1

stray_other : (a : List ℕ) (names : List (List ℕ)) → IsStray a names → a ≢ file_name
stray_other a [] stray = absurd stray
stray_other a (name ∷ names) (inl x) = λ same. x.0 (sym x.1 ∙ same)
stray_other a (name ∷ names) (inr x) = stray_other a names x.1

stray_any : (a : List ℕ) (names : List (List ℕ)) → IsStray a names → list_any (eq_by_cmp name_cmp a) names ≡ true
stray_any a [] stray = absurd stray
stray_any a (name ∷ names) (inl x) = or_left _ _ (subst (λ (n : List ℕ). eq_by_cmp name_cmp a n ≡ true) x.1 (same_name a))
stray_any a (name ∷ names) (inr x) = or_right _ _ (stray_any a names x.1)

none_stray : (a : List ℕ) (image : Image) → keys image ≡ [] → IsStray a (keys image) → ⊥
none_stray a image none stray = subst (λ (names : List (List ℕ)). IsStray a names) none stray

none_alone : (file : List ℕ) (image : Image) → keys image ≡ [] → IsAlone file image → ⊥
none_alone file image none alone = true≢false (sym (ap is_some alone.there) ∙ contains_key-keys image file_name ∙ ap (list_any (eq_by_cmp name_cmp file_name)) none)

stray_alone : (a file : List ℕ) (image : Image) → IsStray a (keys image) → IsAlone file image → ⊥
stray_alone a file image stray alone =
    let none = alone.alone a (stray_other a (keys image) stray) in
    true≢false (sym (stray_any a (keys image) stray) ∙ sym (contains_key-keys image a) ∙ ap is_some none)

one_file : (a b : List ℕ) (image : Image) → IsAlone a image → IsAlone b image → a ≡ b
one_file a b image first second = let same : Some a ≡ Some b = sym first.there ∙ second.there in cc

-- ---- the documents

one_namespace : (file a b : List ℕ) (first last first' last' : DiskLoc) → IsOpened file a first last → IsOpened file b first' last' → full_name a ≡ full_name b
one_namespace file a b first last first' last' x y =
    let same : extent_linking a first last ≡ extent_linking b first' last' = sym (extent_header_is (extent_linking a first last) (part extent_at 176 file) x.extent) ∙ extent_header_is (extent_linking b first' last') (part extent_at 176 file) y.extent in
    let field : namespace_of a ≡ namespace_of b = ap (λ (h : ExtentHeader). h.namespace) same in
    let short = name_of_collection a x.name in
    let room : length (namespace_of a) ≡ 128 = length-padded 128 (full_name a) (omega (arith, short.short)) in
    one_name (namespace_of a) (full_name a) (full_name b) short (name_of_collection b y.name) (ap (λ (n : ℕ). padded n (full_name a)) (sym room)) (field ∙ ap (λ (n : ℕ). padded n (full_name b)) (sym room))

no_offsets : (at : ℕ) (docs : List Elements) → [] ≡ offsets at docs → docs ≡ []
no_offsets at [] none = refl
no_offsets at (doc ∷ docs) none = absurd (cc)

one_whole : (file a b : List ℕ) (docs more : List Elements) → Whole file a docs → Whole file b more → docs ≡ more
one_whole file a b docs more x y =
    let ends = same_ends file a b x.first x.last y.first y.last x.opened y.opened in
    let leads = subst (λ (p : DiskLoc). Leads file (negsuc 0) (place_link p) (offsets first_at docs) End) ends.0 x.leads in
    let g = goes_on file (negsuc 0) (place_link y.first) End (offsets first_at docs) (offsets first_at more) leads y.leads in
    let places = same_all file _ (offsets first_at docs) (offsets first_at more) g.back g.joined g.leads in
    let on = laid_on file first_at docs more [] x.laid y.laid (places ∙ sym (append-nil (offsets first_at more))) in
    on.joined ∙ ap (λ (ds : List Elements). more ++ ds) (no_offsets (end_of first_at more) on.more on.places) ∙ append-nil more

-- the lines of the documents that a file holds are the same, whatever collection and documents they are said to be of
one_lines : (file a b : List ℕ) (docs more : List Elements) → HoldsDocs a docs file → HoldsDocs b more file → doc_lines (full_name a) docs ≡ doc_lines (full_name b) more
one_lines file a b [] [] x y = refl
one_lines file a b [] (doc ∷ more) x y = absurd (one_header file x.written.holds y.written.holds.0)
one_lines file a b (doc ∷ docs) [] x y = absurd (one_header file y.written.holds x.written.holds.0)
one_lines file a b (doc ∷ docs) (other ∷ more) x y =
    let v = whole_of file a doc docs x in
    let w = whole_of file b other more y in
    ap (λ (name : List ℕ). doc_lines name (doc ∷ docs)) (one_namespace file a b v.first v.last w.first w.last v.opened w.opened) ∙ ap (doc_lines (full_name b)) (one_whole file a b (doc ∷ docs) (other ∷ more) v w)

one_shown : (file x y : List ℕ) → Shows file x → Shows file y → x ≡ y
one_shown file x y first second = first.3 ∙ one_lines file first.0 second.0 first.1 second.1 first.2 second.2 ∙ sym second.3

-- ---- the dump

abbrev Agree : Status → Status → List ℕ → List ℕ → Type 0
Agree s t x y = (s ≡ t) × (x ≡ y)

one_of_file : (file : List ℕ) (s t : Status) (x y : List ℕ) → DumpsFile file s x → DumpsFile file t y → Agree s t x y
one_of_file file status.Done status.Done x y a b = (refl, one_shown file x y a b)
one_of_file file status.FilesRefused status.FilesRefused x y a b =
    let same = one_finding file a.0 b.0 a.1 b.1 a.2 b.2 in
    (refl, a.3 ∙ ap (λ (at : ℕ). finding_text at a.1) same.0 ∙ ap (finding_text b.0) same.1 ∙ sym b.3)
one_of_file file status.Done status.FilesRefused x y a b = absurd (excludes file b.0 b.1 b.2 a.0 a.1 a.2)
one_of_file file status.FilesRefused status.Done x y a b = absurd (excludes file a.0 a.1 a.2 b.0 b.1 b.2)
one_of_file file status.Usage t x y a b = absurd a
one_of_file file status.ScriptRefused t x y a b = absurd a
one_of_file file status.DiskFault t x y a b = absurd a
one_of_file file status.SourceFault t x y a b = absurd a
one_of_file file status.SinkFault t x y a b = absurd a
one_of_file file status.NoMemory t x y a b = absurd a
one_of_file file status.Done status.Usage x y a b = absurd b
one_of_file file status.Done status.ScriptRefused x y a b = absurd b
one_of_file file status.Done status.DiskFault x y a b = absurd b
one_of_file file status.Done status.SourceFault x y a b = absurd b
one_of_file file status.Done status.SinkFault x y a b = absurd b
one_of_file file status.Done status.NoMemory x y a b = absurd b
one_of_file file status.FilesRefused status.Usage x y a b = absurd b
one_of_file file status.FilesRefused status.ScriptRefused x y a b = absurd b
one_of_file file status.FilesRefused status.DiskFault x y a b = absurd b
one_of_file file status.FilesRefused status.SourceFault x y a b = absurd b
one_of_file file status.FilesRefused status.SinkFault x y a b = absurd b
one_of_file file status.FilesRefused status.NoMemory x y a b = absurd b

one_dump : (image : Image) (s t : Status) (x y : List ℕ) → IsADump image s x → IsADump image t y → Agree s t x y
one_dump image s t x y (inl a) (inl b) = (a.1 ∙ sym b.1, a.2 ∙ sym b.2)
one_dump image s t x y (inr (inl a)) (inr (inl b)) = (a.2 ∙ sym b.2, a.3 ∙ ap present_text (one_stray a.0 b.0 (keys image) a.1 b.1) ∙ sym b.3)
one_dump image s t x y (inr (inr a)) (inr (inr b)) = one_of_file b.0 s t x y (subst (λ (file : List ℕ). DumpsFile file s x) (one_file a.0 b.0 image a.1 b.1) a.2) b.2
one_dump image s t x y (inl a) (inr (inl b)) = absurd (none_stray b.0 image a.0 b.1)
one_dump image s t x y (inr (inl a)) (inl b) = absurd (none_stray a.0 image b.0 a.1)
one_dump image s t x y (inl a) (inr (inr b)) = absurd (none_alone b.0 image a.0 b.1)
one_dump image s t x y (inr (inr a)) (inl b) = absurd (none_alone a.0 image b.0 a.1)
one_dump image s t x y (inr (inl a)) (inr (inr b)) = absurd (stray_alone a.0 b.0 image a.1 b.1)
one_dump image s t x y (inr (inr a)) (inr (inl b)) = absurd (stray_alone b.0 a.0 image b.1 a.1)

-- a dump is the only one
pub the_dump : (image : Image) (state : Status) (text : List ℕ) → IsADump image state text → IsTheDump image state text
the_dump image state text dumps = record { is = dumps; only = λ other said is. one_dump image other state said text is dumps }
