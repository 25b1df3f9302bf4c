-- What a crash leaves of a run at each moment since its start.
use Rattle.std.specs.Prelude.{◌≡◌, ℕ, ◌+◌, ◌<◌, ◌≤◌, true, List, [], length, get_or, Some, None}
use Rattle.std.specs.FinMap.{get}
use Rattle.mm_outside.specs.Image.{Image}
use Rattle.mm_outside.specs.Told.{Told, Left}
use Rattle.mm_outside.specs.Place.{at_moment, place_of, clean}
use Rattle.mm_ranges.specs.Limits.{is_file}
use Rattle.mm_crash.specs.Recovered.{Files, Recovers}
use Rattle.mm_crash.specs.Chance.{NoChance, places_of}
use Rattle.mm_crash.specs.Story.{Story}
use Rattle.mm_journal.specs.Real.{disk_name}
use Rattle.mm_journal.proofs.Real.{the_format, the_names}
use Rattle.mm_prefix.specs.Prefix.{Numbers, IsPrefix}
use Rattle.mm_prefix.specs.Chain.{AreLeft, last_image, HasPrefix, HoldsSection}
use Rattle.mm_items.specs.Given.{Taken, images_of}
use Rattle.mm_durable.specs.Log.{IsKept, HasCleared, synced}
use Rattle.mm_durable.specs.Intake.{is_ours, first_items}
use Rattle.mm_durable.specs.Durable.{IsServed, IsSafe, items_of}
use Rattle.mm_durable.specs.declared.log.Log.{Log}
use Rattle.mm_durable.specs.declared.durable.Durable.{Durable}

-- a crash at this moment of the run leaves this image, without a chance match
pub record IsLeft (t u : Told) (m : ℕ) (image : Image) : Type 0 where
  pub since : length t.calls < m
  pub left : Left u m image
  pub chance : NoChance the_format the_names (at_moment u m) image

-- the image itself, with the numbers of that moment
abbrev pub EachMomentIsPrefix : Log → Type 0
EachMomentIsPrefix log = (t u : Told) (story : Story) (history : ℕ → Numbers) → IsKept t story history log u → (m : ℕ) (image : Image) → IsLeft t u m image → IsPrefix the_format the_names story (history m) image

-- the same of a side that a stopped call has ended
abbrev pub EachMomentIsSafe : {D : Type 0} → Durable D → Type 0
EachMomentIsSafe d = (t u : Told) (story : Story) (history : ℕ → Numbers) → IsSafe t u story history d.log (items_of d) → (m : ℕ) (image : Image) → IsLeft t u m image → IsPrefix the_format the_names story (history m) image

-- what its recovery has, also after crashes within recoveries
abbrev pub RecoversPrefix : Log → Type 0
RecoversPrefix log = (t u : Told) (story : Story) (history : ℕ → Numbers) → IsKept t story history log u → (m : ℕ) (image : Image) → IsLeft t u m image → (images : List Image) → AreLeft the_format the_names image images
    → HasPrefix the_format the_names story (history m).synced (last_image image images)

-- that it has each section whose receipt is of an earlier moment. Sections are counted from the first of the run, which is 0.
abbrev pub HoldsAcknowledged : Log → Type 0
HoldsAcknowledged log = (t u : Told) (story : Story) (history : ℕ → Numbers) → IsKept t story history log u → (n : ℕ) → n < synced log → (m : ℕ) (image : Image) → get_or log.receipts.items n 0 < m → IsLeft t u m image → (images : List Image) → AreLeft the_format the_names image images
    → HoldsSection the_format the_names story n (last_image image images)

-- What stands on the disk: of each database the files read the image of its items up to the last flushed one, the lsn file holds the marked
-- number, and where the journal was cleared, it has no file.
pub record IsStanding (log : Log) (items : Taken) (u : Told) : Type 0 where
  pub reads : (d : ℕ) → d < length log.names.items → (f : ℕ) → is_file f ≡ true
      → (place_of u (disk_name (get_or log.names.items d []) f)).file ≡ get (images_of (first_items (get_or log.flushed.items d 0 + 1) items) (get_or log.names.items d [])) f
  pub lsn : place_of u the_names.lsn ≡ clean (Some (the_format.number (log.last + log.mark)))
  pub journal : HasCleared log → (n : ℕ) → places_of the_names (place_of u) n ≡ clean None

abbrev pub StandsNow : {D : Type 0} → Durable D → Type 0
StandsNow d = (t u : Told) (story : Story) (history : ℕ → Numbers) → IsServed t u story history d.log (items_of d) → IsStanding d.log (items_of d) u

-- The image's recovery has, for all databases alike, the files that the items of as many groups give, and item 0: of those whose sections were
-- synced, or of one more.
pub record RecoversItems (names : List (List ℕ)) (items : Taken) (count : ℕ) (image : Image) : Type 0 where
  pub to : ℕ
  pub no_less : count ≤ to
  pub no_more : to ≤ count + 1
  pub files : Files
  pub recovers : Recovers the_format the_names image files
  pub reads : (n : List ℕ) → is_ours names n ≡ true → (f : ℕ) → is_file f ≡ true → files (disk_name n f) ≡ get (images_of (first_items (to + 1) items) n) f

-- the same, with that group among them
pub record RecoversGroup (names : List (List ℕ)) (items : Taken) (group : ℕ) (image : Image) : Type 0 where
  pub to : ℕ
  pub among : group ≤ to
  pub files : Files
  pub recovers : Recovers the_format the_names image files
  pub reads : (n : List ℕ) → is_ours names n ≡ true → (f : ℕ) → is_file f ≡ true → files (disk_name n f) ≡ get (images_of (first_items (to + 1) items) n) f

-- each group whose receipt is of an earlier moment is in what is recovered; group k has the k-th section of the run
abbrev pub HoldsGroups : {D : Type 0} → Durable D → Type 0
HoldsGroups d = (t u : Told) (story : Story) (history : ℕ → Numbers) → IsSafe t u story history d.log (items_of d) → (k : ℕ) → k < synced d.log → (m : ℕ) (image : Image) → get_or d.log.receipts.items k 0 < m → IsLeft t u m image → (images : List Image) → AreLeft the_format the_names image images
    → RecoversGroup d.log.names.items (items_of d) (k + 1) (last_image image images)

abbrev pub ServesItems : {D : Type 0} → Durable D → Type 0
ServesItems d = (t u : Told) (story : Story) (history : ℕ → Numbers) → IsSafe t u story history d.log (items_of d) → (m : ℕ) (image : Image) → IsLeft t u m image → (images : List Image) → AreLeft the_format the_names image images
    → RecoversItems d.log.names.items (items_of d) (history m).synced (last_image image images)

-- what is known of a side that goes on is known of a crash
abbrev pub ServedIsSafe : {D : Type 0} → Durable D → Type 0
ServedIsSafe d = (t u : Told) (story : Story) (history : ℕ → Numbers) → IsServed t u story history d.log (items_of d) → IsSafe t u story history d.log (items_of d)
