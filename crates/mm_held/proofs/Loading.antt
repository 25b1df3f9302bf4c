-- The loaded files, each made and whole, give the image that was loaded; and the views that a database begins with.
use Rattle.std.proofs.Common.{◌≡◌, ℕ, ◌+◌, ◌≤◌, Bool, true, false, cond, List, [], ◌∷◌, ◌++◌, length, map, get_or, take, ◌-◌, Option, Some, None, refl, sym, ◌∙◌, ap, subst, arith, length-drop, length-append, unwrap_or}
use Rattle.std.proofs.Math.Seq.{take-add}
use Rattle.std.proofs.lemmas.Bool.{eqb-true, false≢true}
use Rattle.std.proofs.lemmas.Bool.Decides.{nat_tests}
use Rattle.std.proofs.lemmas.List.{take_all, length-take, length-replicate, ext_get_or}
use Rattle.std.proofs.lemmas.Option.{same_Some}
use Rattle.std.specs.Prelude.{◌==◌, ◌||◌, IsSome, replicate}
use Rattle.std.specs.Option.{option_map, option_or}
use Rattle.std.specs.Ordering.{nat_cmp}
use Rattle.std.specs.FinMap.{get, insert, empty, get-empty}
use Rattle.mm_bytes.specs.Files.{overwritten, read_from}
use Rattle.mm_bytes.proofs.Files.{length-overwritten, get_or-overwritten_in}
use Rattle.mm_ranges.specs.Limits.{is_file}
use Rattle.mm_ranges.specs.Overlay.{Image, bytes_at, laid, laid_over, with_made, over}
use Rattle.mm_ranges.specs.declared.part.Piece.{Piece}
use Rattle.mm_ranges.specs.declared.part.Made.{Made}
use Rattle.mm_ranges.proofs.Overlaying.{get-laid, same_outside_none}
use Rattle.mm_ranges.specs.declared.part.Part.{Part}
use Rattle.mm_ranges.specs.declared.part.Closed.{Closed}
use Rattle.mm_views.specs.State.{State, Drafting, drafting_of, IsAdopted, IsCovered, FileAllowed, KeepsLimits, weight_in}
use Rattle.mm_views.proofs.Making.{get-put, same_image}
use Rattle.mm_tie.specs.Ends.{Ring, given, giver_ring, giver_room}
use Rattle.mm_tie.specs.Items.{image_of, up_to}
use Rattle.mm_tie.specs.declared.ends.Giver.{Giver}
use Rattle.mm_held.specs.Meaning.{Meaning}
use Rattle.mm_held.specs.Steps.{IsSetUp}
use Rattle.mm_held.specs.Images.{Imaged, IsImaged, AreNumbered, beyond, imaged}
use Rattle.mm_held.specs.Loaded.{all_files, made_for, piece_for, made_whole, pieces_whole, whole_part, StandsIfAny, IsBegun}
use Rattle.mm_held.proofs.Items.{in_front}

-- ---- a file, piece by piece

pub record Reading (file read : List ℕ) : Type 0 where
  pub front : read ≡ take (length read) file
  pub short : length read ≤ length file

pub reading_more : (file read piece new : List ℕ) → Reading file read → piece ≡ read_from (length read) (length piece) file → new ≡ read ++ piece → Reading file new
reading_more file read piece new r is more =
    let len : length new ≡ length read + length piece = ap length more ∙ length-append read piece in
    let rest : length piece ≤ length file - length read = omega (arith, ap length is, length-take {A = ℕ}, length-drop (length read) file) in
    record {
      front = more ∙ ap (λ (xs : List ℕ). xs ++ piece) r.front ∙ ap (λ (xs : List ℕ). take (length read) file ++ xs) is ∙ sym (take-add (length read) (length piece) file) ∙ ap (λ (n : ℕ). take n file) (sym len);
      short = omega (arith, len, rest, r.short);
    }

pub reading_all : (file read : List ℕ) → Reading file read → length file ≤ length read → read ≡ file
reading_all file read r all = r.front ∙ take_all (length read) file all

-- ---- whole files

abbrev seen : ℕ → List ℕ → Bool
seen q [] = false
seen q (file ∷ files) = q == file || seen q files

abbrev zeros : List ℕ → List ℕ
zeros bytes = replicate (length bytes) 0

-- a file that isn't there changes nothing, and one that is there is put in
absent : (t s : Bool) (o x : Option (List ℕ)) → (t ≡ true → o ≡ None) → cond s (option_or o x) x ≡ cond (t || s) (option_or o x) x
absent true true o x h = refl
absent true false o x h = sym (ap (λ p. option_or p x) (h refl))
absent false s o x h = refl

there : (t s : Bool) (o x : Option (List ℕ)) (b : List ℕ) → (t ≡ true → o ≡ Some b) → cond s (option_or o (cond t (Some b) x)) (cond t (Some b) x) ≡ cond (t || s) (option_or o x) x
there true true o x b h = ap (λ p. option_or p (Some b)) (h refl) ∙ sym (ap (λ p. option_or p x) (h refl))
there true false o x b h = sym (ap (λ p. option_or p x) (h refl))
there false s o x b h = refl

made_step : (f : ℕ) (fs : List ℕ) (ms : List Made) (image image' : Image) (q : ℕ) (o : Option (List ℕ)) → get image f ≡ o
    → ((n : Image) → get (with_made ms n) q ≡ cond (seen q fs) (option_or (option_map zeros (get image q)) (get n q)) (get n q))
    → get (with_made (made_for f o ++ ms) image') q ≡ cond (q == f || seen q fs) (option_or (option_map zeros (get image q)) (get image' q)) (get image' q)
made_step f fs ms image m q None e rest =
    rest m ∙ absent (q == f) (seen q fs) (option_map zeros (get image q)) (get m q) (λ t. ap (λ p. option_map zeros (get image p)) (eqb-true q f t) ∙ ap (option_map zeros) e)
made_step f fs ms image m q (Some b) e rest =
    rest (insert m f (zeros b))
    ∙ (ap (λ p. cond (seen q fs) (option_or (option_map zeros (get image q)) p) p) (get-put m f (zeros b) q)
    ∙ there (q == f) (seen q fs) (option_map zeros (get image q)) (get m q) (zeros b) (λ t. ap (λ p. option_map zeros (get image p)) (eqb-true q f t) ∙ ap (option_map zeros) e))

get-made_whole : (files : List ℕ) (image m : Image) (q : ℕ) → get (with_made (made_whole files image) m) q ≡ cond (seen q files) (option_or (option_map zeros (get image q)) (get m q)) (get m q)
get-made_whole [] image m q = refl
get-made_whole (f ∷ fs) image m q = made_step f fs (made_whole fs image) image m q (get image f) refl (λ n. get-made_whole fs image n q)

-- no file is longer than the one that is to be laid over it
abbrev FitsIn : Image → Image → Type 0
FitsIn image m = (file : ℕ) (bytes : List ℕ) → get image file ≡ Some bytes → length (bytes_at m file) ≤ length bytes

laid_whole : (bytes old : List ℕ) → length old ≤ length bytes → overwritten 0 bytes old ≡ bytes
laid_whole bytes old short =
    let len : length (overwritten 0 bytes old) ≡ length bytes = omega (arith, length-overwritten 0 bytes old, short) in
    ext_get_or 0 (overwritten 0 bytes old) bytes len (λ i within. get_or-overwritten_in 0 bytes old i (omega arith) (omega (arith, len, within)) ∙ ap (λ n. get_or bytes n 0) (omega arith))

put_in : (t : Bool) (b bytes old : List ℕ) (x : Option (List ℕ)) → (t ≡ true → length b ≡ length bytes) → length old ≤ length b → length (unwrap_or x []) ≤ length bytes
    → length (unwrap_or (cond t (Some (overwritten 0 b old)) x) []) ≤ length bytes
put_in true b bytes old x same short fits = omega (arith, length-overwritten 0 b old, same refl, short)
put_in false b bytes old x same short fits = fits

fits_laid : (image m : Image) (f : ℕ) (b : List ℕ) → get image f ≡ Some b → FitsIn image m → FitsIn image (laid f 0 b m)
fits_laid image m f b e fits file bytes is =
    subst (λ p. length (unwrap_or p []) ≤ length bytes) (sym (get-laid f 0 b m file))
    (put_in (file == f) b bytes (bytes_at m f) (get m file) (λ t. ap length (same_Some b bytes (sym e ∙ ap (λ p. get image p) (sym (eqb-true file f t)) ∙ is))) (fits f b e) (fits file bytes is))

piece_step : (f : ℕ) (fs : List ℕ) (ps : List Piece) (image m : Image) (q : ℕ) (o : Option (List ℕ)) → get image f ≡ o → FitsIn image m
    → ((n : Image) → FitsIn image n → get (laid_over ps n) q ≡ cond (seen q fs) (option_or (get image q) (get n q)) (get n q))
    → get (laid_over (piece_for f o ++ ps) m) q ≡ cond (q == f || seen q fs) (option_or (get image q) (get m q)) (get m q)
piece_step f fs ps image m q None e fits rest = rest m fits ∙ absent (q == f) (seen q fs) (get image q) (get m q) (λ t. ap (λ p. get image p) (eqb-true q f t) ∙ e)
piece_step f fs ps image m q (Some b) e fits rest =
    rest (laid f 0 b m) (fits_laid image m f b e fits)
    ∙ (ap (λ p. cond (seen q fs) (option_or (get image q) p) p) (get-laid f 0 b m q ∙ ap (λ bs. cond (q == f) (Some bs) (get m q)) (laid_whole b (bytes_at m f) (fits f b e)))
    ∙ there (q == f) (seen q fs) (get image q) (get m q) b (λ t. ap (λ p. get image p) (eqb-true q f t) ∙ e))

get-pieces_whole : (files : List ℕ) (image m : Image) (q : ℕ) → FitsIn image m → get (laid_over (pieces_whole files image) m) q ≡ cond (seen q files) (option_or (get image q) (get m q)) (get m q)
get-pieces_whole [] image m q fits = refl
get-pieces_whole (f ∷ fs) image m q fits = piece_step f fs (pieces_whole fs image) image m q (get image f) refl fits (λ n h. get-pieces_whole fs image n q h)

all_seen : (q : ℕ) → is_file q ≡ true → seen q all_files ≡ true
unfolding all_files
all_seen q h = grind (arith, nat_tests)

-- ---- the whole image

found : (s : Bool) (o x : Option (List ℕ)) → x ≡ cond s (option_or (option_map zeros o) None) None → (s ≡ false → o ≡ None) → cond s (option_or o x) x ≡ o
found true None x h none = h
found true (Some b) x h none = refl
found false o x h none = h ∙ sym (none refl)

short_zeros : (s : Bool) (o x : Option (List ℕ)) (bytes : List ℕ) → x ≡ cond s (option_or (option_map zeros o) None) None → o ≡ Some bytes → length (unwrap_or x []) ≤ length bytes
short_zeros s o x bytes h is = subst (λ p. length (unwrap_or p []) ≤ length bytes) (sym (h ∙ ap (λ p. cond s (option_or (option_map zeros p) None) None) is)) (either s)
  where
    either : (s : Bool) → length (unwrap_or (cond s (Some (zeros bytes)) None) []) ≤ length bytes
    either true = omega (arith, length-replicate {A = ℕ} (length bytes) 0)
    either false = omega arith

not_seen : (q : ℕ) (o : Option (List ℕ)) → FileAllowed q o → seen q all_files ≡ false → o ≡ None
not_seen q None allowed none = refl
not_seen q (Some b) allowed none = absurd (false≢true (sym none ∙ all_seen q allowed.0))

made_at : (image : Image) (q : ℕ) → get (with_made (made_whole all_files image) empty) q ≡ cond (seen q all_files) (option_or (option_map zeros (get image q)) None) None
made_at image q = get-made_whole all_files image empty q ∙ ap (λ p. cond (seen q all_files) (option_or (option_map zeros (get image q)) p) p) (get-empty nat_cmp q)

pub whole_gives : (image : Image) → KeepsLimits image → over (whole_part image) empty ≡ image
whole_gives image limits = same_image _ _ (λ q.
    get-pieces_whole all_files image (with_made (made_whole all_files image) empty) q (λ file bytes is. short_zeros (seen file all_files) (get image file) _ bytes (made_at image file) is)
    ∙ found (seen q all_files) (get image q) _ (made_at image q) (λ none. not_seen q (get image q) (limits q) none))

-- ---- no file

none_first : (f : ℕ) (o : Option (List ℕ)) (ms : List Made) (ps : List Piece) → (ms ≡ [] → ps ≡ []) → made_for f o ++ ms ≡ [] → piece_for f o ++ ps ≡ []
none_first f None ms ps rest none = rest none
none_first f (Some b) ms ps rest none = absurd (let n : length (made_for f (Some b) ++ ms) ≡ 0 = ap (λ (xs : List Made). length xs) none in omega (arith, n))

none_made : (files : List ℕ) (image : Image) → made_whole files image ≡ [] → pieces_whole files image ≡ []
none_made [] image none = refl
none_made (f ∷ fs) image none = none_first f (get image f) (made_whole fs image) (pieces_whole fs image) (none_made fs image) none

pub no_file : (image : Image) → KeepsLimits image → made_whole all_files image ≡ [] → image ≡ empty
no_file image limits none =
    sym (whole_gives image limits) ∙ (ap (λ ps. laid_over ps (with_made (made_whole all_files image) empty)) (none_made all_files image none) ∙ ap (λ ms. with_made ms empty) none)

some_first : (image : Image) (f : ℕ) (o : Option (List ℕ)) (ms : List Made) → get image f ≡ o → ((ms ≡ [] → ⊥) → (file : ℕ) × IsSome (get image file)) → (made_for f o ++ ms ≡ [] → ⊥) → (file : ℕ) × IsSome (get image file)
some_first image f None ms e rest some = rest some
some_first image f (Some b) ms e rest some = (f, subst (λ o. IsSome o) (sym e) refl)

pub some_file : (files : List ℕ) (image : Image) → (made_whole files image ≡ [] → ⊥) → (file : ℕ) × IsSome (get image file)
some_file [] image some = absurd (some refl)
some_file (f ∷ fs) image some = some_first image f (get image f) (made_whole fs image) refl (some_file fs image) some

-- ---- loaded views

-- where nothing is made, opened or closed, the two images are one
pub images_alike : (s : State) → IsCovered s → s.made ≡ [] → s.opened ≡ [] → s.closed ≡ [] → s.shared ≡ s.private
images_alike s covered made opened closed =
    let there : IsCovered (record s { made = []; opened = []; closed = [] }) = subst IsCovered (ap (λ ms. record s { made = ms }) made
    ∙ (ap (λ rs. record s { made = []; opened = rs }) opened ∙ ap (λ ps. record s { made = []; opened = []; closed = ps }) closed)) covered in
    same_outside_none s.shared s.private (λ file. there file refl)

no_weight : (s : State) → s.made ≡ [] → s.opened ≡ [] → weight_in s.made s.opened ≡ 0
no_weight s made opened = ap (λ ms. weight_in ms s.opened) made ∙ ap (λ rs. weight_in [] rs) opened

-- loaded files are kept as they are
pub begun_loaded : (m : Meaning) (s : State) → StandsIfAny m s.private → IsCovered s → s.made ≡ [] → s.opened ≡ [] → s.closed ≡ [] → (made_whole all_files s.private ≡ [] → ⊥) → IsBegun m s s
begun_loaded m s stands covered made opened closed some =
    let there = some_file all_files s.private some in
    let light = no_weight s made opened in
    record {
      some = stands there.0 there.1;
      stands = λ db h. h;
      loaded = λ file h. refl;
      shared = refl;
      closed = closed;
      covered = covered;
      light = omega (arith, light);
    }

none_there : (image : Image) (file : ℕ) → image ≡ empty → IsSome (get image file) → ⊥
none_there image file none some = false≢true (subst (λ o. IsSome o) (ap (λ i. get i file) none ∙ get-empty nat_cmp file) some)

-- and where there is none, the draft of a new database is adopted
pub begun_new : (m : Meaning) (s new : State) (fresh made ready : Drafting) → fresh ≡ drafting_of s → made.views ≡ fresh.views → weight_in made.made made.declared ≤ 67108864 → IsSetUp m fresh.image made.image
    → ready ≡ record made { is_reserved = true } → IsAdopted ready new → IsCovered new → weight_in new.made new.opened ≤ weight_in ready.views.made ready.views.opened + weight_in ready.made ready.declared
    → s.private ≡ empty → s.made ≡ [] → s.opened ≡ [] → s.closed ≡ [] → IsBegun m s new
begun_new m s new fresh made ready begins views weight set reserved a covered light none none_made none_opened none_closed =
    let kept : ready.views ≡ s = ap (λ (d : Drafting). d.views) reserved ∙ (views ∙ ap (λ (d : Drafting). d.views) begins) in
    let image : fresh.image ≡ s.private = ap (λ (d : Drafting). d.image) begins in
    let private : new.private ≡ made.image = a.private ∙ ap (λ (d : Drafting). d.image) reserved in
    let before : weight_in ready.views.made ready.views.opened ≡ 0 = ap (λ (w : State). weight_in w.made w.opened) kept ∙ no_weight s none_made none_opened in
    let more : weight_in ready.made ready.declared ≡ weight_in made.made made.declared = ap (λ (d : Drafting). weight_in d.made d.declared) reserved in
    record {
      some = (set.some.0, subst (λ i. m.stands i set.some.0) image set.some.1);
      stands = λ db h. subst (λ i. m.stands i db) (sym private) (set.all db (subst (λ i. m.stands i db) (sym image) h));
      loaded = λ file h. absurd (none_there s.private file none h);
      shared = a.shared ∙ ap (λ (w : State). w.shared) kept;
      closed = a.closed ∙ (ap (λ (w : State). w.closed) kept ∙ none_closed);
      covered = covered;
      light = omega (arith, light, before, more, weight);
    }

-- ---- the images of a database that begins

pub begun_imaged : (views : State) (first most : ℕ) (g : Giver Closed) (x : Closed) → given g ≡ x ∷ [] → giver_room g ≡ most → 1 ≤ most → x.section ≡ first → over x.part empty ≡ views.shared
    → IsCovered views → views.closed ≡ [] → weight_in views.made views.opened ≤ 67108864 → IsImaged (imaged views first first g)
begun_imaged views first most g x one room some section whole covered closed light =
    let len : length (given g) ≡ 1 = ap (λ (xs : List Closed). length xs) one in
    let front = in_front first x [] (omega (arith, section)) in
    record {
      numbered = subst (AreNumbered first) (sym one) (section, tt);
      some = omega (arith, len);
      few = omega (arith, len, room, some);
      from_first = omega arith;
      to_last = omega (arith, len);
      shared = sym whole ∙ ap image_of (sym front.0 ∙ ap (up_to first) (sym one));
      closed = closed ∙ ap (λ (xs : List Closed). map (λ (i : Closed). i.part) xs) (sym front.1 ∙ ap (beyond first) (sym one));
      covered = covered;
      light = omega (arith, light);
    }

pub begun_view : (views : State) (first most : ℕ) (g : Giver Closed) (r : Ring) (xs : List Closed) → given g ≡ xs → giver_ring g ≡ r → giver_room g ≡ most
    → imaged views first first g ≡ record { views = views; first = first; given = xs; ring = r; most = most; applied = first }
begun_view views first most g r xs items ring room =
    ap (λ x. record (imaged views first first g) { given = x }) items
    ∙ (ap (λ x. record (imaged views first first g) { given = xs; ring = x }) ring ∙ ap (λ x. record (imaged views first first g) { given = xs; ring = r; most = x }) room)

-- ---- whether a file was loaded

no_made : (ms : List Made) → length ms ≡ 0 → ms ≡ []
no_made [] h = refl
no_made (m ∷ ms) h = absurd (omega (arith, h))

pub none_loaded : (part : Part) (image : Image) (ms : List Made) (b : Bool) → part ≡ whole_part image → ms ≡ part.made → b ≡ (length ms == 0) → b ≡ true → made_whole all_files image ≡ []
none_loaded part image ms b whole is tests empty =
    let none : ms ≡ [] = no_made ms (eqb-true (length ms) 0 (sym tests ∙ empty)) in
    sym (ap (λ (p : Part). p.made) whole) ∙ (sym is ∙ none)

pub some_loaded : (part : Part) (image : Image) (ms : List Made) (b : Bool) → part ≡ whole_part image → ms ≡ part.made → b ≡ (length ms == 0) → b ≡ false → made_whole all_files image ≡ [] → ⊥
some_loaded part image ms b whole is tests some none =
    let empty : ms ≡ [] = is ∙ (ap (λ (p : Part). p.made) whole ∙ none) in
    false≢true (sym some ∙ (tests ∙ ap (λ (xs : List Made). length xs == 0) empty))

-- ---- what the images of a database that begins are seen as

pub begun_seen : (i : Imaged) (views : State) (first most : ℕ) (ring : Ring) (x y : Closed) → i ≡ record { views = views; first = first; given = x ∷ []; ring = ring; most = most; applied = first } → x ≡ y
    → i ≡ record { views = i.views; first = first; given = y ∷ []; ring = ring; most = most; applied = first }
begun_seen i views first most ring x y is same =
    is ∙ (ap (λ z. record { views = views; first = first; given = z ∷ []; ring = ring; most = most; applied = first }) same
    ∙ ap (λ w. record { views = w; first = first; given = y ∷ []; ring = ring; most = most; applied = first }) (sym (ap (λ (j : Imaged). j.views) is)))

pub begun_opening : (i : Imaged) (views : State) (first most : ℕ) (ring : Ring) (x : Closed) (image : Image) → i ≡ record { views = views; first = first; given = x ∷ []; ring = ring; most = most; applied = first } → over x.part empty ≡ image
    → image_of i.given ≡ image
begun_opening i views first most ring x image is whole = ap (λ (j : Imaged). image_of j.given) is ∙ whole
