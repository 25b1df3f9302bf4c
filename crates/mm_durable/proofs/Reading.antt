-- What recovery makes of an image that a crash left is what the items of each database make.
use Rattle.std.proofs.Common.{◌≡◌, ℕ, ◌+◌, ◌≤◌, true, List, length, take, ◌∙◌, ap}
use Rattle.std.specs.FinMap.{get}
use Rattle.mm_outside.specs.Image.{Image}
use Rattle.mm_outside.specs.Told.{Told}
use Rattle.mm_ranges.specs.Limits.{is_file}
use Rattle.mm_crash.specs.Overlay.{over}
use Rattle.mm_crash.specs.Journal.{entries_of}
use Rattle.mm_crash.specs.Story.{Story, state}
use Rattle.mm_journal.specs.Real.{disk_name}
use Rattle.mm_journal.proofs.Real.{the_format, the_names}
use Rattle.mm_items.specs.Given.{Taken, images_of}
use Rattle.mm_prefix.specs.Prefix.{Numbers, IsPrefix}
use Rattle.mm_prefix.specs.Chain.{AreLeft, last_image}
use Rattle.mm_prefix.proofs.Laws.{same_recovery}
use Rattle.mm_durable.specs.Intake.{is_ours, first_items}
use Rattle.mm_durable.specs.Durable.{HasImages, IsSafe}
use Rattle.mm_durable.specs.Laws.{IsLeft, RecoversItems}
use Rattle.mm_durable.specs.declared.log.Log.{Log}
use Rattle.mm_durable.proofs.Flushes.{names_are}

-- after k sections the files of each database read its items 0 to k
pub state_reads : (names : List (List ℕ)) (items : Taken) (story : Story) → HasImages names items story → (k : ℕ) → k ≤ length story.sections → (n : List ℕ) → is_ours names n ≡ true → (f : ℕ) → is_file f ≡ true
    → state the_names story k (disk_name n f) ≡ get (images_of (first_items (k + 1) items) n) f
state_reads names items story has k le n is f file =
    ap (λ (name : List ℕ → ℕ → List ℕ). over (entries_of name (take k story.sections)) (disk_name n f) (story.base (disk_name n f))) names_are
    ∙ (has.laid k le).reads n is f file

pub recovers_items : (t u : Told) (story : Story) (history : ℕ → Numbers) (log : Log) (items : Taken) → IsSafe t u story history log items → (m : ℕ) (image : Image) → IsLeft t u m image → (images : List Image) → AreLeft the_format the_names image images
    → RecoversItems log.names.items items (history m).synced (last_image image images)
recovers_items t u story history log items k m image left images are =
    let p : IsPrefix the_format the_names story (history m) image = k.leaves.each m image left.since left.left left.chance in
    let w = p.whole in
    record {
      to = w.to;
      no_less = w.no_less;
      no_more = w.no_more;
      files = state the_names story w.to;
      recovers = same_recovery the_format the_names image images (state the_names story w.to) are w.recovers;
      reads = λ n is f file. state_reads log.names.items items story k.images w.to w.there n is f file;
    }
