-- A change of the files in memory is the change of the image.
use Rattle.std.proofs.Common.{◌≡◌, ℕ, Bool, true, false, cond, List, [], map, Option, Some, None, String, Vec, string_bytes, refl, sym, ◌∙◌, ap, subst}
use Rattle.std.specs.declared.alloc.Global.{Global}
use Rattle.std.specs.Option.{option_map, option_map_or}
use Rattle.std.specs.Str.{bytes_eq}
use Rattle.std.specs.String.{string_cmp}
use Rattle.std.specs.Ordering.{eq_by_cmp, nat_cmp}
use Rattle.std.specs.Cmp.{eq_by_cmp_equiv}
use Rattle.std.specs.Cmp.Lexicographic.{slice_cmp, nat_list_cmp_total}
use Rattle.std.specs.BTreeMap.{UpdatesBy, get_by_text}
use Rattle.std.specs.FinMap.{get, insert, remove, get-insert, get-remove, get-from_entries}
use Rattle.std.proofs.lemmas.Map.Text.{btree_map_updates_text, is_eq-slice_cmp}
use Rattle.mm_outside.specs.Image.{Image, name_cmp, with_file}
use Rattle.mm_outside.specs.Told.{changed, Creates}
use Rattle.mm_outside.proofs.Places.{one_name}
use Rattle.mm_memdisk.specs.Files.{Files, Reads, Follows, file_at, image_of_entries}
use Rattle.mm_memdisk.specs.Left.{Puts}
use Rattle.mm_memdisk.proofs.Names.{find_named}

same_test : (bs q : List ℕ) → bytes_eq bs q ≡ eq_by_cmp name_cmp q bs
same_test bs q = sym (is_eq-slice_cmp bs q) ∙ (eq_by_cmp_equiv nat_list_cmp_total).symm bs q

map-cond : (b : Bool) (x y : Option (Vec ℕ Global)) → option_map (λ (v : Vec ℕ Global). v.items) (cond b x y) ≡ cond b (option_map (λ (v : Vec ℕ Global). v.items) x) (option_map (λ (v : Vec ℕ Global). v.items) y)
map-cond true x y = refl
map-cond false x y = refl

-- the file of this name is replaced, and the others stay
abbrev UpdatesFile : List ℕ → Files → Files → Option (Vec ℕ Global) → Type 0
UpdatesFile name old new w = UpdatesBy string_cmp (λ (k : String Global). slice_cmp nat_cmp name (string_bytes k)) old new w

after_update : (old new : Files) (name : List ℕ) (w : Option (Vec ℕ Global)) (image : Image) → UpdatesFile name old new w → Reads old image
    → (q : List ℕ) → file_at new q ≡ cond (eq_by_cmp name_cmp q name) (option_map (λ (v : Vec ℕ Global). v.items) w) (get image q)
after_update old new name w image updates reads q =
    ap (option_map (λ (v : Vec ℕ Global). v.items)) (btree_map_updates_text name old new w updates q)
    ∙ map-cond (bytes_eq name q) w (get_by_text old q)
    ∙ ap (λ b. cond b (option_map (λ (v : Vec ℕ Global). v.items) w) (file_at old q)) (same_test name q)
    ∙ ap (cond (eq_by_cmp name_cmp q name) (option_map (λ (v : Vec ℕ Global). v.items) w)) (reads q)

pub removed : (old new : Files) (name : List ℕ) → UpdatesFile name old new None → Follows old new (λ image. remove image name)
removed old new name updates image reads q = after_update old new name None image updates reads q ∙ sym (get-remove nat_list_cmp_total image name q)

inserted : (old new : Files) (name : List ℕ) (v : Vec ℕ Global) → UpdatesFile name old new (Some v) → Follows old new (λ image. insert image name v.items)
inserted old new name v updates image reads q = after_update old new name (Some v) image updates reads q ∙ sym (get-insert nat_list_cmp_total image name v.items q)

pub created : (old new : Files) (name : List ℕ) (k : String Global) (v : Vec ℕ Global) → UpdatesBy string_cmp (string_cmp k) old new (Some v) → string_bytes k ≡ name → v.items ≡ [] → get_by_text old name ≡ None
    → Follows old new (changed Creates name)
created old new name k v updates is_name is_empty none image reads =
    let absent : get image name ≡ None = sym (reads name) ∙ ap (option_map (λ (v : Vec ℕ Global). v.items)) none in
    let there : Reads new (insert image name v.items) = inserted old new name v (subst (λ (bs : List ℕ). UpdatesFile bs old new (Some v)) is_name updates) image reads in
    subst (λ (o : Option (List ℕ)). Reads new (option_map_or (λ _. image) o (insert image name []))) (sym absent) (subst (λ (bytes : List ℕ). Reads new (insert image name bytes)) is_empty there)

pub rewritten : (old new : Files) (name : List ℕ) (was v : Vec ℕ Global) (make : List ℕ → List ℕ) → UpdatesFile name old new (Some v) → get_by_text old name ≡ Some was → v.items ≡ make was.items
    → Follows old new (with_file name make)
rewritten old new name was v make updates some makes image reads =
    let there_before : get image name ≡ Some was.items = sym (reads name) ∙ ap (option_map (λ (v : Vec ℕ Global). v.items)) some in
    let there : Reads new (insert image name v.items) = inserted old new name v updates image reads in
    subst (λ (o : Option (List ℕ)). Reads new (option_map_or (λ bytes. insert image name (make bytes)) o image)) (sym there_before) (subst (λ (bytes : List ℕ). Reads new (insert image name bytes)) makes there)

same_file : (image : Image) (name q : List ℕ) (bytes : List ℕ) (b : Bool) → eq_by_cmp name_cmp q name ≡ b → get image name ≡ Some bytes → cond b (Some bytes) (get image q) ≡ get image q
same_file image name q bytes true e is = sym is ∙ ap (get image) (sym (one_name q name e))
same_file image name q bytes false e is = refl

-- a file is replaced by one with the same bytes
pub kept : (old new : Files) (name : List ℕ) (was v : Vec ℕ Global) → UpdatesFile name old new (Some v) → get_by_text old name ≡ Some was → v.items ≡ was.items → Follows old new (λ image. image)
kept old new name was v updates some same image reads q =
    let there_before : get image name ≡ Some was.items = sym (reads name) ∙ ap (option_map (λ (v : Vec ℕ Global). v.items)) some in
    after_update old new name (Some v) image updates reads q ∙ same_file image name q v.items _ refl (there_before ∙ ap Some (sym same))

-- ---- what a list of files reads as

pub reads_as : (files : Files) → Reads files (image_of_entries files.entries)
reads_as files q = sym (get-from_entries nat_list_cmp_total (map (λ (e : String Global × Vec ℕ Global). (string_bytes e.0, e.1.items)) files.entries) q ∙ find_named q files.entries)

-- a file is put in
pub put_is : (old new : Files) (name : List ℕ) (k : String Global) (v : Vec ℕ Global) (bytes : List ℕ) → UpdatesBy string_cmp (string_cmp k) old new (Some v) → string_bytes k ≡ name → v.items ≡ bytes → Puts name (Some bytes) old new
put_is old new name k v bytes updates is_name is_bytes q =
    after_update old new name (Some v) (image_of_entries old.entries) (subst (λ (bs : List ℕ). UpdatesFile bs old new (Some v)) is_name updates) (reads_as old) q
    ∙ ap (λ (l : List ℕ). cond (eq_by_cmp name_cmp q name) (Some l) (get (image_of_entries old.entries) q)) is_bytes
    ∙ ap (cond (eq_by_cmp name_cmp q name) (Some bytes)) (sym (reads_as old q))
