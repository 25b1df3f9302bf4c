-- What a dump says of the names, and of the bytes that are read of the data file.
use Rattle.std.proofs.Common.{◌≡◌, ◌≢◌, ℕ, suc, ◌+◌, ◌<◌, ◌≤◌, ◌⊎◌, inl, inr, Bool, true, false, not, List, [], ◌∷◌, length, map, take, drop, drop-cons, get_or, is_some, unwrap_or, refl, sym, ap, ◌∙◌, arith, subst, Option, Some, None}
use Rattle.std.proofs.lemmas.Bool.{true≢false, or_left, or_from}
use Rattle.std.specs.Prelude.{Result, Ok, Err, IfOk}
use Rattle.std.specs.List.{list_any}
use Rattle.std.specs.Ordering.{eq_by_cmp}
use Rattle.std.specs.FinMap.{get, keys, contains_key-keys}
use Rattle.std.proofs.lemmas.List.{take_all, length-take}
use Rattle.mm_outside.specs.Image.{Image, name_cmp, bytes_at}
use Rattle.mm_outside.specs.Told.{Told, IfTold, image_of}
use Rattle.mm_outside.proofs.Places.{same_name, different}
use Rattle.mm_main.specs.declared.dump.Said.{Said}
use Rattle.mm_main.specs.declared.dump.Said.TheVariants.{Lines, Refusal}
use Rattle.mm_main.specs.declared.finding.What.{What}
use Rattle.mm_main.specs.declared.finding.What.TheVariants.{File, Extent, Chain, Tiling, Document}
use Rattle.mm_main.specs.declared.status.Status.{Status}
use Rattle.mm_main.specs.declared.status.Status.TheVariants as status
use Rattle.mm_main.specs.Contents.{Shows}
use Rattle.mm_main.specs.Dumps.{IsADump, IsTheDump, DumpsFile, IsAlone, AreOwn, IsFirstStray, IsStray, said_status, said_text}
use Rattle.mm_main.specs.Findings.{IsHeaded, IsFinding}
use Rattle.mm_main.specs.Room.{file_len}
use Rattle.mm_main.specs.Stored.{file_name}
use Rattle.mm_main.specs.Streams.{Says}
use Rattle.mm_main.specs.Texts.{disk_fault_text, no_memory_text}
use Rattle.mm_main.specs.Top.{IsAmong, Dumps, SaysFault}
use Rattle.mm_main.proofs.OneDump.{the_dump}
use Rattle.mm_main.proofs.StatusSteps.{none_of_two, none_of, none_of_five}

-- ---- the bytes that are read

-- at most n of the bytes are there, where the first n + 1 of them are at most n
few : (n : ℕ) (file : List ℕ) → length (take (n + 1) file) ≡ n → length file ≤ n + 1
few n file len = omega (arith, length-take {A = ℕ}, len)

same_bytes : (n : ℕ) (file : List ℕ) → length (take (n + 1) file) ≡ n → take (n + 1) file ≡ file
same_bytes n file len = take_all (n + 1) file (few n file len)

seen_headed : (file : List ℕ) → IsHeaded file → IsHeaded (take (file_len + 1) file)
seen_headed file h = subst IsHeaded (sym (take_all (file_len + 1) file (omega (arith, h.0)))) h

seen_finding : (file : List ℕ) (at : ℕ) (what : What) → IsFinding (take (file_len + 1) file) at what → IsFinding file at what
seen_finding file at File f = (f.0, λ h. f.1 (seen_headed file h))
seen_finding file at Extent f = subst (λ (bytes : List ℕ). IsFinding bytes at Extent) (same_bytes file_len file f.1) f
seen_finding file at Chain f = subst (λ (bytes : List ℕ). IsFinding bytes at Chain) (same_bytes file_len file f.5.size) f
seen_finding file at Tiling f = subst (λ (bytes : List ℕ). IsFinding bytes at Tiling) (same_bytes file_len file f.2.opened.size) f
seen_finding file at Document f = subst (λ (bytes : List ℕ). IsFinding bytes at Document) (same_bytes file_len file f.2.opened.size) f

-- what is said of the bytes that are read is said of the file
pub seen_dumps : (file seen : List ℕ) (state : Status) (text : List ℕ) → seen ≡ take (file_len + 1) file → DumpsFile seen state text → DumpsFile file state text
seen_dumps file seen status.Done text is d =
    let shows = subst (λ (bytes : List ℕ). Shows bytes text) is d in
    subst (λ (bytes : List ℕ). Shows bytes text) (same_bytes file_len file shows.2.written.size) shows
seen_dumps file seen status.FilesRefused text is d =
    let finding = subst (λ (bytes : List ℕ). IsFinding bytes d.0 d.1) is d.2 in
    (d.0, d.1, seen_finding file d.0 d.1 finding, d.3)
seen_dumps file seen status.Usage text is d = d
seen_dumps file seen status.ScriptRefused text is d = d
seen_dumps file seen status.DiskFault text is d = d
seen_dumps file seen status.SourceFault text is d = d
seen_dumps file seen status.SinkFault text is d = d
seen_dumps file seen status.NoMemory text is d = d

-- ---- the names

-- what is found of these names is found of all
abbrev pub LeavesStray : List (List ℕ) → List (List ℕ) → Type 0
LeavesStray all rest = (found : Option (List ℕ)) → IsFirstStray found rest → IsFirstStray found all

first_more : (found : Option (List ℕ)) (name : List ℕ) (rest : List (List ℕ)) → name ≡ file_name → IsFirstStray found rest → IsFirstStray found (name ∷ rest)
first_more None name rest own first = (own, first)
first_more (Some stray) name rest own first = inr (own, first)

pub cut : {X : Type 0} (xs : List X) (i : ℕ) (x : X) → i < length xs → x ≡ get_or xs i x → drop i xs ≡ x ∷ drop (i + 1) xs
cut xs i x inside is =
    let next : suc i ≡ i + 1 = omega arith in
    drop-cons xs i x inside ∙ ap (λ y. y ∷ drop (suc i) xs) (sym is) ∙ ap (λ (n : ℕ). x ∷ drop n xs) next

pub passed_own : {X : Type 0} (f : X → List ℕ) (xs : List X) (i : ℕ) (x : X) → i < length xs → x ≡ get_or xs i x → f x ≡ file_name → LeavesStray (map f xs) (map f (drop i xs)) → LeavesStray (map f xs) (map f (drop (i + 1) xs))
passed_own f xs i x inside is own leaves = λ found first.
    leaves found (subst (λ ys. IsFirstStray found (map f ys)) (sym (cut xs i x inside is)) (first_more found (f x) (map f (drop (i + 1) xs)) own first))

pub met_stray : {X : Type 0} (f : X → List ℕ) (xs : List X) (i : ℕ) (x : X) → i < length xs → x ≡ get_or xs i x → f x ≢ file_name → LeavesStray (map f xs) (map f (drop i xs)) → IsStray (f x) (map f xs)
met_stray f xs i x inside is other leaves = leaves (Some (f x)) (subst (λ ys. IsStray (f x) (map f ys)) (sym (cut xs i x inside is)) (inl (other, refl)))

-- ---- the test of a name

pub is_other : {P : Type 0} (r ne : Bool) → ne ≡ not r → ne ≡ true → (P → r ≡ true) → P → ⊥
is_other true ne is other decides = absurd (true≢false (sym other ∙ is))
is_other false ne is other decides = λ p. true≢false (sym (decides p))

pub is_same : {P : Type 0} (r ne : Bool) → ne ≡ not r → ne ≡ false → (r ≡ true → P) → P
is_same true ne is same decides = decides refl
is_same false ne is same decides = absurd (true≢false (sym is ∙ same))

-- ---- the files

own_any : (names : List (List ℕ)) → AreOwn names → 0 < length names → list_any (eq_by_cmp name_cmp file_name) names ≡ true
own_any [] own some = absurd (omega (arith, some))
own_any (name ∷ names) own some = or_left _ _ (subst (λ (n : List ℕ). eq_by_cmp name_cmp file_name n ≡ true) (sym own.0) (same_name file_name))

own_none : (names : List (List ℕ)) (other : List ℕ) → AreOwn names → other ≢ file_name → list_any (eq_by_cmp name_cmp other) names ≡ false
own_none [] other own differs = refl
own_none (name ∷ names) other own differs =
    or_from _ _ (different other name (λ same. differs (same ∙ own.0))) (own_none names other own.1 differs)

some_by : (o : Option (List ℕ)) → is_some o ≡ true → o ≡ Some (unwrap_or o [])
some_by None is = absurd (true≢false (sym is))
some_by (Some x) is = refl

none_by : (o : Option (List ℕ)) → is_some o ≡ false → o ≡ None
none_by None is = refl
none_by (Some x) is = absurd (true≢false is)

-- with no name but the data file's, the data file is alone
own_alone : (image : Image) (names : List (List ℕ)) → names ≡ keys image → AreOwn names → 0 < length names → IsAlone (bytes_at image file_name) image
own_alone image names is own some = record {
  there = some_by (get image file_name) (contains_key-keys image file_name ∙ ap (list_any (eq_by_cmp name_cmp file_name)) (sym is) ∙ own_any names own some);
  alone = λ name other. none_by (get image name) (contains_key-keys image name ∙ ap (list_any (eq_by_cmp name_cmp name)) (sym is) ∙ own_none names name own other);
}

-- what is said of the data file is said of the files
pub dumps_data_file : (told now : Option Told) (names : List (List ℕ)) (E : Type 0) (said : Result Said E) → now ≡ told → IfTold told (λ t. names ≡ keys (image_of t)) → AreOwn names → 0 < length names
    → IfOk said (λ one. IfTold now (λ t. DumpsFile (bytes_at (image_of t) file_name) (said_status one) (said_text one)))
    → IfOk said (λ one. IfTold told (λ t. IsADump (image_of t) (said_status one) (said_text one)))
dumps_data_file told now names E (Ok said) same is own some dumps = λ t tells. inr (inr (bytes_at (image_of t) file_name, own_alone (image_of t) names (is t tells) own some, dumps t (same ∙ tells)))
dumps_data_file told now names E (Err fault) same is own some dumps = tt

-- ---- what is said

-- where the status is one of a dump, the text was said
says_dumps : (image : Image) (result state told : Status) (text said : List ℕ) (before after : Option (List ℕ)) (C : Type 0) → IsAmong result (status.Done ∷ status.FilesRefused ∷ []) → state ≡ told → text ≡ said → IsADump image told said
    → ((result ≡ state) × Says text before after) ⊎ ((result ≡ status.SinkFault) × C) → (one : List ℕ) × IsTheDump image result one × Says one before after
says_dumps image result state told text said before after C among is same dumps (inl done) =
    (text, the_dump image result text (subst (λ (s : Status). IsADump image s text) (sym (done.0 ∙ is)) (subst (λ (bytes : List ℕ). IsADump image told bytes) (sym same) dumps)), done.1)
says_dumps image result state told text said before after C (inl done) is same dumps (inr failed) = absurd (let never : status.Done ≡ status.SinkFault = sym done ∙ failed.0 in cc)
says_dumps image result state told text said before after C (inr (inl refused)) is same dumps (inr failed) = absurd (let never : status.FilesRefused ≡ status.SinkFault = sym refused ∙ failed.0 in cc)
says_dumps image result state told text said before after C (inr (inr none)) is same dumps (inr failed) = absurd none

-- the text was said, or the sink failed
pub dumps_said : (told : Option Told) (result state : Status) (text : List ℕ) (one : Said) (before after : Option (List ℕ)) (C : Type 0) → state ≡ said_status one → text ≡ said_text one
    → IfTold told (λ t. IsADump (image_of t) (said_status one) (said_text one)) → ((result ≡ state) × Says text before after) ⊎ ((result ≡ status.SinkFault) × C) → Dumps result told before after
dumps_said told result state text one before after C is same dumps said = record {
  among = among_of said;
  said = λ among t tells. says_dumps (image_of t) result state (said_status one) text (said_text one) before after C among is same (dumps t tells) said;
  fault = fault_of said;
}
  where
    among_one : (s : Said) → IsAmong (said_status s) (status.Done ∷ status.DiskFault ∷ status.SinkFault ∷ status.NoMemory ∷ status.FilesRefused ∷ [])
    among_one (Lines bytes) = inl refl
    among_one (Refusal bytes) = inr (inr (inr (inr (inl refl))))

    among_of : ((result ≡ state) × Says text before after) ⊎ ((result ≡ status.SinkFault) × C) → IsAmong result (status.Done ∷ status.DiskFault ∷ status.SinkFault ∷ status.NoMemory ∷ status.FilesRefused ∷ [])
    among_of (inl done) = subst (λ (s : Status). IsAmong s (status.Done ∷ status.DiskFault ∷ status.SinkFault ∷ status.NoMemory ∷ status.FilesRefused ∷ [])) (sym (done.0 ∙ is)) (among_one one)
    among_of (inr failed) = inr (inr (inl failed.0))

    fault_one : (s : Said) → SaysFault (said_status s) before after
    fault_one (Lines bytes) = tt
    fault_one (Refusal bytes) = tt

    fault_of : ((result ≡ state) × Says text before after) ⊎ ((result ≡ status.SinkFault) × C) → SaysFault result before after
    fault_of (inl done) = subst (λ (s : Status). SaysFault s before after) (sym (done.0 ∙ is)) (fault_one one)
    fault_of (inr failed) = subst (λ (s : Status). SaysFault s before after) (sym failed.0) tt

-- a fault was said, or the sink failed
dumps_fault : (told : Option Told) (result fault : Status) (before after : Option (List ℕ)) (C : Type 0)
    → Dumps fault told before after → ((result ≡ fault) × C) → Dumps result told before after
dumps_fault told result fault before after C dumps is = subst (λ (s : Status). Dumps s told before after) (sym is.0) dumps

unsaid : (told : Option Told) (before after : Option (List ℕ)) → Dumps status.SinkFault told before after
unsaid told before after = record {
  among = inr (inr (inl refl));
  said = λ among. absurd (none_of_two status.SinkFault status.Done status.FilesRefused (λ e. cc) (λ e. cc) among);
  fault = tt;
}

pub dumps_disk_fault : (told : Option Told) (result : Status) (text : List ℕ) (before after : Option (List ℕ)) (C : Type 0) → text ≡ disk_fault_text
    → ((result ≡ status.DiskFault) × Says text before after) ⊎ ((result ≡ status.SinkFault) × C) → Dumps result told before after
dumps_disk_fault told result text before after C is (inl done) = dumps_fault told result status.DiskFault before after _ (record {
  among = inr (inl refl);
  said = λ among. absurd (none_of_two status.DiskFault status.Done status.FilesRefused (λ e. cc) (λ e. cc) among);
  fault = subst (λ (bytes : List ℕ). Says bytes before after) is done.1;
}) done
dumps_disk_fault told result text before after C is (inr failed) = dumps_fault told result status.SinkFault before after C (unsaid told before after) failed

pub dumps_no_memory : (told : Option Told) (result : Status) (text : List ℕ) (before after : Option (List ℕ)) (C : Type 0) → text ≡ no_memory_text
    → ((result ≡ status.NoMemory) × Says text before after) ⊎ ((result ≡ status.SinkFault) × C) → Dumps result told before after
dumps_no_memory told result text before after C is (inl done) = dumps_fault told result status.NoMemory before after _ (record {
  among = inr (inr (inr (inl refl)));
  said = λ among. absurd (none_of_two status.NoMemory status.Done status.FilesRefused (λ e. cc) (λ e. cc) among);
  fault = subst (λ (bytes : List ℕ). Says bytes before after) is done.1;
}) done
dumps_no_memory told result text before after C is (inr failed) = dumps_fault told result status.SinkFault before after C (unsaid told before after) failed

-- a dump refuses neither words nor a script
pub dump_asks : {D : Type 0} (told : Option Told) (result : Status) (before after : Option (List ℕ)) (old new : D) → Dumps result told before after
    → IsAmong result (status.Usage ∷ status.ScriptRefused ∷ status.SourceFault ∷ []) → new ≡ old
dump_asks told result before after old new dumps among = absurd (never result dumps.among among)
  where
    never : (s : Status) → IsAmong s (status.Done ∷ status.DiskFault ∷ status.SinkFault ∷ status.NoMemory ∷ status.FilesRefused ∷ []) → IsAmong s (status.Usage ∷ status.ScriptRefused ∷ status.SourceFault ∷ []) → ⊥
    never status.Done one other = none_of status.Done status.Usage status.ScriptRefused status.SourceFault (λ e. cc) (λ e. cc) (λ e. cc) other
    never status.DiskFault one other = none_of status.DiskFault status.Usage status.ScriptRefused status.SourceFault (λ e. cc) (λ e. cc) (λ e. cc) other
    never status.SinkFault one other = none_of status.SinkFault status.Usage status.ScriptRefused status.SourceFault (λ e. cc) (λ e. cc) (λ e. cc) other
    never status.NoMemory one other = none_of status.NoMemory status.Usage status.ScriptRefused status.SourceFault (λ e. cc) (λ e. cc) (λ e. cc) other
    never status.FilesRefused one other = none_of status.FilesRefused status.Usage status.ScriptRefused status.SourceFault (λ e. cc) (λ e. cc) (λ e. cc) other
    never status.Usage one other = none_of_five status.Usage (λ e. cc) (λ e. cc) (λ e. cc) (λ e. cc) (λ e. cc) one
    never status.ScriptRefused one other = none_of_five status.ScriptRefused (λ e. cc) (λ e. cc) (λ e. cc) (λ e. cc) (λ e. cc) one
    never status.SourceFault one other = none_of_five status.SourceFault (λ e. cc) (λ e. cc) (λ e. cc) (λ e. cc) (λ e. cc) one
