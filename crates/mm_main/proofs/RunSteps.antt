-- Steps of playing.
use Rattle.std.proofs.Common.{◌≡◌, ℕ, ◌+◌, ◌<◌, List, [], ◌∷◌, length, map, get_or, ap, ◌∙◌, sym, arith, inl, refl, Option, subst}
use Rattle.mm_outside.specs.Told.{Told}
use Rattle.mm_model.specs.declared.action.Action.{Action}
use Rattle.mm_script.specs.declared.fault.LineWhat.{LineWhat}
use Rattle.mm_script.specs.Script.{most_bytes}
use Rattle.mm_main.specs.declared.play.End.{End}
use Rattle.mm_main.specs.declared.play.End.TheVariants.{Refused, Present, Played, SourceFailed, DiskFailed, NoMemory}
use Rattle.mm_main.specs.Ends.{IfComing, ScriptEnds, PlayEnds, IsRefusal, IsUnasked}
use Rattle.mm_main.specs.Script.{IsPlayed, Refuses}
use Rattle.mm_main.specs.Stored.{MayHaveBegun}
use Rattle.mm_main.specs.Streams.{ReadsUpTo}
use Rattle.mm_main.specs.Texts.{refusal_text}

-- the first of some values, each seen as its bytes
pub first_of_names : {X : Type 0} (f : X → List ℕ) (xs : List X) (x : X) → 0 < length xs → x ≡ get_or xs 0 x → (others : List (List ℕ)) × (map f xs ≡ f x ∷ others)
first_of_names f [] x some is = absurd (omega arith)
first_of_names f (y ∷ xs) x some is = (map f xs, ap (λ n. n ∷ map f xs) (ap f (sym is)))

-- no call was made
pub begun_none : (old new : Option Told) → new ≡ old → MayHaveBegun old new
begun_none old new same = record { file = []; some = λ t is. (t, same ∙ is, inl refl) }

-- what is known of what was read is known of what was to come
pub if_read : (P : List ℕ → Type 0) (bytes seen : List ℕ) (coming left : Option (List ℕ)) → ReadsUpTo (most_bytes + 1) bytes coming left → seen ≡ bytes → P seen → IfComing coming P
if_read P bytes seen coming left reads same holds = λ all is. subst P (same ∙ (reads all is).0) holds

pub plays_end : (actions : List Action) (coming : Option (List ℕ)) (old new : Option Told) (end : End) → IfComing coming (IsPlayed actions) → ScriptEnds actions old new end → PlayEnds coming old new end
plays_end actions coming old new (Refused line what text) script plays = absurd plays
plays_end actions coming old new (Present name text) script plays = (actions, script, plays)
plays_end actions coming old new (Played text) script plays = (actions, script, plays)
plays_end actions coming old new SourceFailed script plays = absurd plays
plays_end actions coming old new DiskFailed script plays = (actions, script, plays)
plays_end actions coming old new NoMemory script plays = plays

pub refusal_ends : (line : ℕ) (what : LineWhat) (coming : Option (List ℕ)) (old new : Option Told) (end : End) → IfComing coming (Refuses line what) → new ≡ old → IsRefusal line what end → PlayEnds coming old new end
refusal_ends line what coming old new (Refused n w text) first same refusal = (
  refusal.2 ∙ ap (λ m. refusal_text m what) (sym refusal.0) ∙ ap (refusal_text n) (sym refusal.1),
  same,
  subst (λ (v : LineWhat). IfComing coming (Refuses n v)) (sym refusal.1) (subst (λ (m : ℕ). IfComing coming (Refuses m what)) (sym refusal.0) first),
)
refusal_ends line what coming old new (Present name text) first same refusal = absurd refusal
refusal_ends line what coming old new (Played text) first same refusal = absurd refusal
refusal_ends line what coming old new SourceFailed first same refusal = absurd refusal
refusal_ends line what coming old new DiskFailed first same refusal = absurd refusal
refusal_ends line what coming old new NoMemory first same refusal = begun_none old new same

-- a script that was played isn't refused
pub played_asks : {D : Type 0} (actions : List Action) (old new : Option Told) (end : End) (before after : D) → ScriptEnds actions old new end → IsUnasked end before after
played_asks actions old new (Refused line what text) before after ends = absurd ends
played_asks actions old new (Present name text) before after ends = tt
played_asks actions old new (Played text) before after ends = tt
played_asks actions old new SourceFailed before after ends = absurd ends
played_asks actions old new DiskFailed before after ends = tt
played_asks actions old new NoMemory before after ends = tt

-- a refusal asks nothing
pub unasked_same : {D : Type 0} (end : End) (old new : D) → new ≡ old → IsUnasked end old new
unasked_same (Refused line what text) old new same = same
unasked_same (Present name text) old new same = tt
unasked_same (Played text) old new same = tt
unasked_same SourceFailed old new same = same
unasked_same DiskFailed old new same = tt
unasked_same NoMemory old new same = tt
