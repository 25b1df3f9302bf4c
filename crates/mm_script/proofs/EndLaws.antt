-- How the lines of a script ended is known by their text.
use Rattle.std.proofs.Common.{◌≡◌, ℕ, ◌<◌, ◌^◌, Bool, true, false, List, [], ◌∷◌, ◌++◌, Option, Some, None, refl, sym, ap, ◌∙◌, arith, append_assoc}
use Rattle.std.specs.Prelude.{codes, ◌==◌, not, if◌then◌else◌}
use Rattle.std.specs.List.{list_all}
use Rattle.std.specs.Str.{bytes_eq}
use Rattle.std.specs.Fmt.{decimal}
use Rattle.std.proofs.lemmas.List.{append_cancel_left}
use Rattle.mm_model.specs.declared.reply.Reply.{Reply}
use Rattle.mm_model.specs.declared.command.Command.{Command}
use Rattle.mm_model.specs.declared.action.Action.{Action}
use Rattle.mm_model.specs.declared.action.Action.TheVariants as action
use Rattle.mm_script.specs.Replies.{reply_text}
use Rattle.mm_script.specs.Render.{disk_fault, out_of_memory, Receipt, LineEnd, replied, unreplied, stepped, unstepped, not_run, receipt_text, end_text, line_of, end_lines, is_inside, finds, IsReplyTo, IsReceipt, IsCommandEnd, IsStepEnd, IsEndOf, AreEndsOf}
use Rattle.mm_script.proofs.Parts.{Stops, head_is, tail_is, cut_once, is_digit, number_once, number_begins}
use Rattle.mm_script.proofs.ReplyParts.{word_kind}
use Rattle.mm_script.proofs.ReplyLaws.{reply_once, word_apart}

-- ---- receipts

receipt_stops : (r : Option (Option Receipt)) (t : List ℕ) → Stops is_inside (receipt_text r ++ 0x0a ∷ t)
receipt_stops None t = refl
receipt_stops (Some None) t = refl
receipt_stops (Some (Some r)) t = refl

synced_is : (r : Receipt) (t : List ℕ) → receipt_text (Some (Some r)) ++ 0x0a ∷ t ≡ codes " j " ++ (decimal r.section ++ (0x20 ∷ (decimal r.moment ++ 0x0a ∷ t)))
synced_is r t = ap (λ (l : List ℕ). codes " j " ++ l) (append_assoc (decimal r.section) (0x20 ∷ decimal r.moment) (0x0a ∷ t))

-- no number begins as `none` does
none_apart : (n : ℕ) (t u : List ℕ) → n < 2 ^ 64 → 0x6e ∷ t ≡ decimal n ++ u → ⊥
none_apart n t u lt e =
    let first = number_begins n u lt in
    let is : 0x6e ≡ first.0 = head_is _ _ _ _ (e ∙ first.2) in
    cc (ap is_digit is ∙ first.3)

receipt_once : (j : Bool) (r s : Option (Option Receipt)) (t u : List ℕ) → IsReceipt j r → IsReceipt j s → receipt_text r ++ 0x0a ∷ t ≡ receipt_text s ++ 0x0a ∷ u → (r ≡ s) × (t ≡ u)
receipt_once false None None t u ir is e = (refl, tail_is _ _ _ _ e)
receipt_once false None (Some s) t u ir is e = absurd is
receipt_once false (Some r) s t u ir is e = absurd ir
receipt_once true None s t u ir is e = absurd ir
receipt_once true (Some r) None t u ir is e = absurd is
receipt_once true (Some None) (Some None) t u ir is e = (refl, tail_is _ _ _ _ (append_cancel_left (codes " j none") _ _ e))
receipt_once true (Some None) (Some (Some s)) t u ir is e =
    absurd (none_apart s.section _ _ is.0 (append_cancel_left (codes " j ") _ _ (e ∙ synced_is s u)))
receipt_once true (Some (Some r)) (Some None) t u ir is e =
    absurd (none_apart r.section _ _ ir.0 (append_cancel_left (codes " j ") _ _ (sym e ∙ synced_is r t)))
receipt_once true (Some (Some r)) (Some (Some s)) t u ir is e =
    let section = number_once r.section s.section (0x20 ∷ (decimal r.moment ++ 0x0a ∷ t)) (0x20 ∷ (decimal s.moment ++ 0x0a ∷ u)) ir.0 is.0 refl refl
    (append_cancel_left (codes " j ") _ _ (sym (synced_is r t) ∙ e ∙ synced_is s u)) in
    let moment = number_once r.moment s.moment (0x0a ∷ t) (0x0a ∷ u) ir.1 is.1 refl refl (tail_is _ _ _ _ section.1) in
    let same : r ≡ s = ap (λ (n : ℕ). record { section = n; moment = r.moment }) section.0 ∙ ap (λ (n : ℕ). record { section = s.section; moment = n }) moment.0 in
    (ap (λ (x : Receipt). Some (Some x)) same, tail_is _ _ _ _ moment.1)

-- ---- ends of commands

replied_is : (r : Reply) (x : Option (Option Receipt)) (t : List ℕ) → end_text (replied r x) ++ 0x0a ∷ t ≡ reply_text r ++ (receipt_text x ++ 0x0a ∷ t)
replied_is r x t = append_assoc (reply_text r) (receipt_text x) (0x0a ∷ t)

-- no reply is a line without one
apart : (c : Command) (r : Reply) (x : Option (Option Receipt)) (w rest t : List ℕ) → IsReplyTo c r → list_all is_inside w ≡ true → Stops is_inside rest → word_kind (finds c) w ≡ 99
    → end_text (replied r x) ++ 0x0a ∷ t ≡ w ++ rest → ⊥
apart c r x w rest t ir whole sr other e =
    word_apart (finds c) r w (receipt_text x ++ 0x0a ∷ t) rest ir.kind (receipt_stops x t) whole sr other (sym (replied_is r x t) ∙ e)

Same : LineEnd → LineEnd → List ℕ → List ℕ → Type 0
Same a b t u = (a ≡ b) × (t ≡ u)

command_end_once : (c : Command) (j : Bool) (a b : LineEnd) (t u : List ℕ) → IsCommandEnd c j a → IsCommandEnd c j b → end_text a ++ 0x0a ∷ t ≡ end_text b ++ 0x0a ∷ u → Same a b t u
unfolding Same
command_end_once c j (replied r x) (replied s y) t u ia ib e =
    let reply = reply_once (finds c) r s (receipt_text x ++ 0x0a ∷ t) (receipt_text y ++ 0x0a ∷ u) ia.0.reply ib.0.reply ia.0.kind ib.0.kind (receipt_stops x t) (receipt_stops y u)
    (sym (replied_is r x t) ∙ e ∙ replied_is s y u) in
    let receipt = receipt_once j x y t u ia.1 ib.1 reply.1 in
    (ap (λ (q : Reply). replied q x) reply.0 ∙ ap (replied s) receipt.0, receipt.1)
command_end_once c j (replied r x) unreplied t u ia ib e = absurd (apart c r x (codes "no") (codes " memory\n" ++ u) t ia.0 refl refl refl e)
command_end_once c j (replied r x) not_run t u ia ib e = absurd (apart c r x (codes "not") (codes " run\n" ++ u) t ia.0 refl refl refl e)
command_end_once c j (replied r x) stepped t u ia ib e = absurd ib
command_end_once c j (replied r x) (unstepped stop) t u ia ib e = absurd ib
command_end_once c j unreplied (replied s y) t u ia ib e = absurd (apart c s y (codes "no") (codes " memory\n" ++ t) u ib.0 refl refl refl (sym e))
command_end_once c j unreplied unreplied t u ia ib e = (refl, append_cancel_left (codes "no memory\n") t u e)
command_end_once c j unreplied not_run t u ia ib e = absurd (omega (arith, head_is _ _ _ _ (append_cancel_left (codes "no") _ _ e)))
command_end_once c j unreplied stepped t u ia ib e = absurd ib
command_end_once c j unreplied (unstepped stop) t u ia ib e = absurd ib
command_end_once c j not_run (replied s y) t u ia ib e = absurd (apart c s y (codes "not") (codes " run\n" ++ t) u ib.0 refl refl refl (sym e))
command_end_once c j not_run unreplied t u ia ib e = absurd (omega (arith, head_is _ _ _ _ (append_cancel_left (codes "no") _ _ e)))
command_end_once c j not_run not_run t u ia ib e = (refl, append_cancel_left (codes "not run\n") t u e)
command_end_once c j not_run stepped t u ia ib e = absurd ib
command_end_once c j not_run (unstepped stop) t u ia ib e = absurd ib
command_end_once c j stepped b t u ia ib e = absurd ia
command_end_once c j (unstepped stop) b t u ia ib e = absurd ia

-- ---- ends of steps

abbrev in_line : ℕ → Bool
in_line b = not (b == 0x0a)

abbrev step_end_of : List ℕ → LineEnd
step_end_of text =
    if bytes_eq text (codes "ok") then stepped
    else (if bytes_eq text (codes "disk fault") then unstepped disk_fault
    else (if bytes_eq text (codes "no memory") then unstepped out_of_memory else not_run))

again : (a : LineEnd) → IsStepEnd a → (step_end_of (end_text a) ≡ a) × (list_all in_line (end_text a) ≡ true)
again (replied r x) i = absurd i
again unreplied i = absurd i
again stepped i = (refl, refl)
again (unstepped disk_fault) i = (refl, refl)
again (unstepped out_of_memory) i = (refl, refl)
again not_run i = (refl, refl)

step_end_once : (a b : LineEnd) (t u : List ℕ) → IsStepEnd a → IsStepEnd b → end_text a ++ 0x0a ∷ t ≡ end_text b ++ 0x0a ∷ u → Same a b t u
unfolding Same
step_end_once a b t u ia ib e =
    let cut = cut_once in_line (end_text a) (end_text b) (0x0a ∷ t) (0x0a ∷ u) (again a ia).1 (again b ib).1 refl refl e in
    (sym (again a ia).0 ∙ ap step_end_of cut.0 ∙ (again b ib).0, tail_is _ _ _ _ cut.1)

-- ---- all lines

end_once : (x : Action) (a b : LineEnd) (t u : List ℕ) → IsEndOf x a → IsEndOf x b → end_text a ++ 0x0a ∷ t ≡ end_text b ++ 0x0a ∷ u → Same a b t u
end_once (action.Run line session db command j) a b t u ia ib e = command_end_once command j a b t u ia ib e
end_once (action.Close line) a b t u ia ib e = step_end_once a b t u ia ib e
end_once (action.Log line) a b t u ia ib e = step_end_once a b t u ia ib e
end_once (action.Apply line) a b t u ia ib e = step_end_once a b t u ia ib e
end_once (action.Remap line) a b t u ia ib e = step_end_once a b t u ia ib e
end_once (action.Commit line) a b t u ia ib e = step_end_once a b t u ia ib e
end_once (action.Flush line db) a b t u ia ib e = step_end_once a b t u ia ib e
end_once (action.Sync line) a b t u ia ib e = step_end_once a b t u ia ib e
end_once (action.Lsn line) a b t u ia ib e = step_end_once a b t u ia ib e
end_once (action.Trim line) a b t u ia ib e = step_end_once a b t u ia ib e

line_more : (x : Action) (script : List Action) (a : LineEnd) (ends : List LineEnd) (t : List ℕ)
    → end_lines (x ∷ script) (a ∷ ends) ++ t ≡ decimal (line_of x) ++ (0x20 ∷ (end_text a ++ 0x0a ∷ (end_lines script ends ++ t)))
line_more x script a ends t =
    append_assoc (decimal (line_of x)) (0x20 ∷ (end_text a ++ 0x0a ∷ end_lines script ends)) t
    ∙ ap (λ (l : List ℕ). decimal (line_of x) ++ 0x20 ∷ l) (append_assoc (end_text a) (0x0a ∷ end_lines script ends) t)

-- Of one script, texts that begin with how its lines ended begin with the same ends, and go on the same.
pub ends_once : (script : List Action) (es fs : List LineEnd) (t u : List ℕ) → AreEndsOf script es → AreEndsOf script fs → end_lines script es ++ t ≡ end_lines script fs ++ u → (es ≡ fs) × (t ≡ u)
unfolding Same
ends_once [] [] [] t u ia ib e = (refl, e)
ends_once [] [] (b ∷ fs) t u ia ib e = absurd ib
ends_once [] (a ∷ es) fs t u ia ib e = absurd ia
ends_once (x ∷ script) [] fs t u ia ib e = absurd ia
ends_once (x ∷ script) (a ∷ es) [] t u ia ib e = absurd ib
ends_once (x ∷ script) (a ∷ es) (b ∷ fs) t u ia ib e =
    let whole = append_cancel_left (decimal (line_of x)) _ _ (sym (line_more x script a es t) ∙ e ∙ line_more x script b fs u) in
    let first = end_once x a b (end_lines script es ++ t) (end_lines script fs ++ u) ia.0 ib.0 (tail_is _ _ _ _ whole) in
    let later = ends_once script es fs t u ia.1 ib.1 first.1 in
    (ap (λ (y : LineEnd). y ∷ es) first.0 ∙ ap (λ (ys : List LineEnd). b ∷ ys) later.0, later.1)
