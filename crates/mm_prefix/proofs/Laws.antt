-- What follows of receipts, and of crashes within recoveries.
use Rattle.std.proofs.Common.{ℕ, ◌<◌, List, [], ◌∷◌, length, get_or, arith}
use Rattle.mm_outside.specs.Image.{Image}
use Rattle.mm_outside.specs.Told.{Told, Left}
use Rattle.mm_outside.specs.Place.{at_moment}
use Rattle.mm_crash.specs.Journal.{Format}
use Rattle.mm_crash.specs.Recovered.{Names, Files, Recovers}
use Rattle.mm_crash.specs.Chance.{NoChance}
use Rattle.mm_crash.specs.Story.{Story, state}
use Rattle.mm_crash.specs.Rest.{Counts}
use Rattle.mm_prefix.specs.Prefix.{Numbers, IsPrefix, IsDurable}
use Rattle.mm_prefix.specs.Chain.{LeftWithin, AreLeft, last_image, HasPrefix, HoldsSection}

module _ (fmt : Format) (at : Names) where
  -- Each image in a chain of crashes within recoveries has the same recovery.
  pub same_recovery : (first : Image) (images : List Image) (files : Files) → AreLeft fmt at first images → Recovers fmt at first files → Recovers fmt at (last_image first images) files
  same_recovery first [] files left is = is
  same_recovery first (next ∷ images) files left is =
      let l : LeftWithin fmt at first next = left.0 in
      same_recovery next images files left.1 ((l.promised files is).each l.m next l.since l.left l.chance)

  module _ (db : List ℕ → ℕ) (t : Told) (story : Story) (c : Counts) (history : ℕ → Numbers) (receipts : List ℕ) (u : Told) (k : IsDurable fmt at db t story c history receipts u) where
    -- What a crash at a moment leaves is whole, and however often recovery is stopped, its recovery has one prefix of the sections.
    pub leaves_prefix : (m : ℕ) (image : Image) → length t.calls < m → Left u m image → NoChance fmt at (at_moment u m) image → (images : List Image) → AreLeft fmt at image images → HasPrefix fmt at story (history m).synced (last_image image images)
    leaves_prefix m image lt left chance images are =
        let p : IsPrefix fmt at story (history m) image = k.leaves.each m image lt left chance in
        record { to = p.whole.to; no_less = p.whole.no_less; no_more = p.whole.no_more; there = p.whole.there; recovers = same_recovery image images (state at story p.whole.to) are p.whole.recovers }

    -- A section whose receipt is of a moment before this one is in that prefix, and so it is after a crash at any later moment.
    pub acknowledged : (n : ℕ) → n < length receipts → (m : ℕ) (image : Image) → get_or receipts n 0 < m → length t.calls < m → Left u m image → NoChance fmt at (at_moment u m) image → (images : List Image) → AreLeft fmt at image images → HoldsSection fmt at story n (last_image image images)
    acknowledged n there m image earlier lt left chance images are =
        let p = leaves_prefix m image lt left chance images are in
        record { to = p.to; past = omega (arith, k.given n there m earlier, p.no_less); there = p.there; recovers = p.recovers }
