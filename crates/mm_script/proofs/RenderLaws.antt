-- The text of a run tells its history.
use Rattle.std.proofs.Common.{◌≡◌, ℕ, ◌+◌, Bool, List, [], ◌∷◌, ◌++◌, Option, Some, None, refl, sym, ap, ◌∙◌, subst, append-nil, map}
use Rattle.mm_model.specs.declared.reply.Reply.{Reply}
use Rattle.mm_model.specs.declared.command.Command.{Command}
use Rattle.mm_model.specs.declared.action.Entry.{Entry}
use Rattle.mm_model.specs.History.{Group}
use Rattle.mm_script.specs.declared.groups.Fate.{Fate}
use Rattle.mm_model.specs.declared.action.Action.{Action}
use Rattle.mm_base.specs.declared.ids.SessionNo.{SessionNo}
use Rattle.mm_base.specs.declared.ids.DbNo.{DbNo}
use Rattle.mm_model.specs.declared.action.Action.TheVariants as action
use Rattle.mm_script.specs.Replies.{reply_text}
use Rattle.mm_script.specs.Render.{Stopped, disk_fault, out_of_memory, Receipt, LineEnd, replied, entry_line, probe_lines, last_line, render, finds, at_line, IsEntryOf, AreEntriesOf, IsGroupOf, AreGroupsOf, RepliesAreKnown, TextsTell}
use Rattle.mm_script.proofs.Parts.{Stops}
use Rattle.mm_script.proofs.ReplyLaws.{reply_once}
use Rattle.mm_script.proofs.EndLaws.{ends_once}
use Rattle.mm_script.proofs.GroupLaws.{numbers_in, begins_group, all_numbers, groups_once}

pub replies_are_known : RepliesAreKnown
replies_are_known c r s ir is e =
    (reply_once (finds c) r s [] [] ir.reply is.reply ir.kind is.kind tt tt (append-nil (reply_text r) ∙ e ∙ sym (append-nil (reply_text s)))).0

-- ---- entries

entry_head : (e f : Entry) (es fs : List Entry) → map entry_line (e ∷ es) ≡ map entry_line (f ∷ fs) → e.line ≡ f.line
entry_head e f es fs is = cc

some_pair : {A B : Type 0} (a c : A) (b d : B) → ◌≡◌ {A = Option (A × B)} (Some (a, b)) (Some (c, d)) → (a ≡ c) × (b ≡ d)
some_pair {A} {B} a c b d e =
    let pairs : (a, b) ≡ (c, d) = cc in
    (ap (λ (p : A × B). p.0) pairs, ap (λ (p : A × B). p.1) pairs)

run_once : (n m : ℕ) (s t : SessionNo) (p q : DbNo) (c d : Command) (i j : Bool) → action.Run n s p c i ≡ action.Run m t q d j → (s ≡ t) × (c ≡ d)
run_once n m s t p q c d i j e = (cc, cc)

reply_is : (r s : Reply) (x y : Option (Option Receipt)) → replied r x ≡ replied s y → r ≡ s
reply_is r s x y e = cc

told_once : (d : ℕ) (e f : Entry) (n m : ℕ) (i j : Bool) (x y : Option (Option Receipt)) (at : Option (Action × LineEnd))
    → at ≡ Some (action.Run n (record { 0 = e.session }) (record { 0 = d }) e.command i, replied e.reply x)
    → at ≡ Some (action.Run m (record { 0 = f.session }) (record { 0 = d }) f.command j, replied f.reply y)
    → (e.session ≡ f.session) × (e.command ≡ f.command) × (e.reply ≡ f.reply)
told_once d e f n m i j x y at is also =
    let parts = some_pair _ _ _ _ (sym is ∙ also) in
    let run = run_once _ _ _ _ _ _ _ _ _ _ parts.0 in
    (ap (λ (s : SessionNo). s.0) run.0, run.1, reply_is _ _ _ _ parts.1)

entry_once : (script : List Action) (ends : List LineEnd) (d : ℕ) (e f : Entry) → IsEntryOf script ends d e → IsEntryOf script ends d f → e.line ≡ f.line → e ≡ f
entry_once script ends d e f ie jf same =
    let parts = told_once d e f e.line f.line ie.j jf.j ie.receipt jf.receipt (at_line e.line script ends) ie.line (ap (λ (n : ℕ). at_line n script ends) same ∙ jf.line) in
    ap (λ (s : ℕ). record { session = s; line = e.line; command = e.command; reply = e.reply }) parts.0
    ∙ ap (λ (n : ℕ). record { session = f.session; line = n; command = e.command; reply = e.reply }) same
    ∙ ap (λ (c : Command). record { session = f.session; line = f.line; command = c; reply = e.reply }) parts.1
    ∙ ap (λ (r : Reply). record { session = f.session; line = f.line; command = f.command; reply = r }) parts.2

numbers_tail : {A : Type 0} (x y : A) (xs ys : List A) → x ∷ xs ≡ y ∷ ys → (x ≡ y) × (xs ≡ ys)
numbers_tail x y xs ys e = (cc, cc)

entries_told : (script : List Action) (ends : List LineEnd) (d : ℕ) (es fs : List Entry) → AreEntriesOf script ends d es → AreEntriesOf script ends d fs → map entry_line es ≡ map entry_line fs → es ≡ fs
entries_told script ends d [] [] ie jf same = refl
entries_told script ends d [] (f ∷ fs) ie jf same = absurd (cc)
entries_told script ends d (e ∷ es) [] ie jf same = absurd (cc)
entries_told script ends d (e ∷ es) (f ∷ fs) ie jf same =
    let parts = numbers_tail (entry_line e) (entry_line f) (map entry_line es) (map entry_line fs) same in
    ap (λ (x : Entry). x ∷ es) (entry_once script ends d e f ie.0 jf.0 parts.0) ∙ ap (λ (xs : List Entry). f ∷ xs) (entries_told script ends d es fs ie.1 jf.1 parts.1)

group_told : (script : List Action) (ends : List LineEnd) (d : ℕ) (names : List (List ℕ)) (g h : Group) → IsGroupOf script ends d names g → IsGroupOf script ends d names h → numbers_in g ≡ numbers_in h → g ≡ h
group_told script ends d [] [] [] ig jh same = refl
group_told script ends d [] [] (fs ∷ h) ig jh same = absurd jh
group_told script ends d [] (es ∷ g) h ig jh same = absurd ig
group_told script ends d (name ∷ names) [] h ig jh same = absurd ig
group_told script ends d (name ∷ names) (es ∷ g) [] ig jh same = absurd jh
group_told script ends d (name ∷ names) (es ∷ g) (fs ∷ h) ig jh same =
    let parts = numbers_tail (map entry_line es) (map entry_line fs) (numbers_in g) (numbers_in h) same in
    ap (λ (x : List Entry). x ∷ g) (entries_told script ends d es fs ig.0 jh.0 parts.0) ∙ ap (λ (xs : Group). fs ∷ xs) (group_told script ends (d + 1) names g h ig.1 jh.1 parts.1)

groups_told : (script : List Action) (ends : List LineEnd) (names : List (List ℕ)) (n m : ℕ) (gs hs : List Group) (fates kinds : List Fate) → AreGroupsOf script ends names n gs fates
    → AreGroupsOf script ends names m hs kinds → all_numbers gs ≡ all_numbers hs → gs ≡ hs
groups_told script ends names n m [] [] fates kinds ig jh same = refl
groups_told script ends names n m [] (h ∷ hs) fates kinds ig jh same = absurd (cc)
groups_told script ends names n m (g ∷ gs) [] fates kinds ig jh same = absurd (cc)
groups_told script ends names n m (g ∷ gs) (h ∷ hs) [] kinds ig jh same = absurd ig
groups_told script ends names n m (g ∷ gs) (h ∷ hs) (f ∷ fates) [] ig jh same = absurd jh
groups_told script ends names n m (g ∷ gs) (h ∷ hs) (f ∷ fates) (k ∷ kinds) ig jh same =
    let parts = numbers_tail (numbers_in g) (numbers_in h) (all_numbers gs) (all_numbers hs) same in
    ap (λ (x : Group). x ∷ gs) (group_told script ends 0 names g h ig.2 jh.2 parts.0) ∙ ap (λ (xs : List Group). h ∷ xs) (groups_told script ends names (n + 1) (m + 1) gs hs fates kinds ig.3 jh.3 parts.1)

-- ---- what stands behind the groups

last_stops : (stop : Option Stopped) → Stops begins_group (last_line stop)
last_stops None = tt
last_stops (Some disk_fault) = refl
last_stops (Some out_of_memory) = refl

behind_stops : (names : List (List ℕ)) (probes : List (Option (List ℕ))) (stop : Option Stopped) → Stops begins_group (probe_lines names probes ++ last_line stop)
behind_stops [] probes stop = last_stops stop
behind_stops (name ∷ names) [] stop = last_stops stop
behind_stops (name ∷ names) (None ∷ probes) stop = behind_stops names probes stop
behind_stops (name ∷ names) (Some shown ∷ probes) stop = refl

pub texts_tell : TextsTell
unfolding render
texts_tell names script one other w io jo e =
    let ends = ends_once script one.lines other.lines _ _ io.ends jo.ends e in
    let groups = groups_once script one.lines other.lines names one.next other.next one.groups other.groups one.fates other.fates _ _ w io.groups jo.groups
    (behind_stops names one.probes one.stopped) (behind_stops names other.probes other.stopped) ends.1 in (
      ends.0,
      groups_told script one.lines names one.next other.next one.groups other.groups one.fates other.fates io.groups
          (subst (λ (l : List LineEnd). AreGroupsOf script l names other.next other.groups other.fates) (sym ends.0) jo.groups) groups.1,
      groups.0,
    )
