-- Crashes within recoveries, to any depth.
use Rattle.std.proofs.Common.{◌≡◌, ℕ, zero, suc, ◌<◌, Some, refl, sym, subst}
use Rattle.std.proofs.lemmas.Option.{same_Some}
use Rattle.mm_outside.specs.Image.{Image}
use Rattle.mm_outside.specs.Told.{Told, Left}
use Rattle.mm_outside.specs.Place.{at_moment}
use Rattle.mm_outside.proofs.CleanPlaces.{fresh_clean}
use Rattle.mm_crash.specs.Recovered.{Files, Recovers}
use Rattle.mm_crash.specs.Chance.{NoChance}
use Rattle.mm_journal.proofs.Real.{the_format, the_names}
use Rattle.mm_recover.specs.Recovering.{KeepsRecovery}
use Rattle.mm_recover.specs.Crashes.{restarted, AreCrashes}

one_crash : (files : Files) (first next : Image) (u : Told) (m : ℕ) → Recovers the_format the_names first files → KeepsRecovery (Some (restarted first)) (Some u) → 0 < m → Left u m next → NoChance the_format the_names (at_moment u m) next → Recovers the_format the_names next files
one_crash files first next u m w keeps lt left chance =
    let run = keeps files (restarted first) refl (fresh_clean first) w in
    let same : u ≡ run.0 = same_Some u run.0 run.1 in
    run.2.each m next lt (subst (λ (t : Told). Left t m next) same left) (subst (λ (t : Told). NoChance the_format the_names (at_moment t m) next) same chance)

pub any_depth : (files : Files) (n : ℕ) (first last : Image) → Recovers the_format the_names first files → AreCrashes n first last → Recovers the_format the_names last files
any_depth files zero first last w crashes = subst (λ (i : Image). Recovers the_format the_names i files) (sym crashes) w
any_depth files (suc n) first last w crashes =
    let next : Image = crashes.1 in
    any_depth files n next last (one_crash files first next crashes.0 crashes.2 w crashes.3 crashes.4 crashes.5 crashes.6) crashes.7
