use Rattle.std.proofs.Common.{refl, ◌-◌, [], ◌∙◌, ap, get_or, ◌++◌, ◌∷◌, ℕ, List}
use Rattle.mm_section.specs.Spells.{section_bytes}
use Rattle.mm_jfiles.proofs.Asking.{some_before}
use Rattle.mm_durable.proofs.Steps.{on_err_holds, leaving}
use Rattle.mm_durable.proofs.Logs.{can_at, spellable, pending_inside, files_are, asks_are, appending_left, syncing_left, logged}
use Rattle.mm_durable.proofs.log.Log.log_next.Goals as goal

pub returns-in_err-reserve-clause-left : goal.returns-in_err-reserve-clause-left
returns-in_err-reserve-clause-left g c = on_err_holds c.from_residual.result _ (leaving c.args.self.now _ _ [] (some_before [] _) (λ t u story history k. tt))

pub returns-in_err-spell-clause-left : goal.returns-in_err-spell-clause-left
returns-in_err-spell-clause-left g c = on_err_holds c.from_residual-in_err-spell.result _ (leaving c.args.self.now _ _ [] (some_before [] _) (λ t u story history k. tt))

pub spell-requires : goal.spell-requires
spell-requires g c =
    let old = c.args.self.now in
    let x = c.index-section.result.now in
    spellable x (can_at old.sections.items _ x (pending_inside old c.requires.sound c.requires.pending) (c.index-section.ensures ∙ ap (λ (n : ℕ). get_or old.sections.items (n - old.dropped) x) c.synced_count.ensures) c.requires.sound.can)

pub returns-in_err-append-clause-left : goal.returns-in_err-append-clause-left
returns-in_err-append-clause-left g c =
    let old = c.args.self.now in
    let x = c.index-section.result.now in
    on_err_holds c.from_residual-in_err-append.result _ (appending_left old c.requires.sound c.requires.goes c.requires.pending x (c.index-section.ensures ∙ ap (λ (n : ℕ). get_or old.sections.items (n - old.dropped) x) c.synced_count.ensures)
    c.deref.result.now (c.deref.ensures.value ∙ c.in_ok-spell.ensures.ok ∙ ap (λ (i : ℕ). section_bytes i x) c.id.ensures) _ _ c.append.ensures.cut)

pub returns-in_err-sync-clause-left : goal.returns-in_err-sync-clause-left
returns-in_err-sync-clause-left g c =
    let old = c.args.self.now in
    let x = c.index-section.result.now in
    on_err_holds c.from_residual-in_err-sync.result _ (syncing_left old c.requires.sound c.requires.goes c.requires.pending x (c.index-section.ensures ∙ ap (λ (n : ℕ). get_or old.sections.items (n - old.dropped) x) c.synced_count.ensures)
    c.deref.result.now (c.deref.ensures.value ∙ c.in_ok-spell.ensures.ok ∙ ap (λ (i : ℕ). section_bytes i x) c.id.ensures) c.append.new.self c.in_ok-append.ensures.state _ _ _ c.in_ok-append.ensures.made c.sync.ensures.cut)

pub returns-clause-kept : goal.returns-clause-kept
returns-clause-kept g c =
    let old = c.args.self.now in
    let x = c.index-section.result.now in
    logged old c.requires.sound c.requires.goes c.requires.pending x (c.index-section.ensures ∙ ap (λ (n : ℕ). get_or old.sections.items (n - old.dropped) x) c.synced_count.ensures)
    c.deref.result.now (c.deref.ensures.value ∙ c.in_ok-spell.ensures.ok ∙ ap (λ (i : ℕ). section_bytes i x) c.id.ensures) _ (record { names = refl; last = refl }) c.append.new.self c.in_ok-append.ensures.state c.in_ok-sync.ensures.state refl refl refl refl refl
    _ _ _ c.in_ok-append.ensures.made c.in_ok-sync.ensures.made
    (λ v is. c.push_reserved.ensures.items ∙ ap (λ (l : List ℕ). l ++ c.moment.result ∷ []) c.in_ok-reserve.ensures.items ∙ ap (λ (n : ℕ). old.receipts.items ++ n ∷ []) (c.moment.ensures ∙ g.met.D.Disk.counts c.sync.new.disk v is))

pub returns-clause-receipts : goal.returns-clause-receipts
returns-clause-receipts g c = c.push_reserved.ensures.items ∙ ap (λ (l : List ℕ). l ++ c.moment.result ∷ []) c.in_ok-reserve.ensures.items ∙ ap (λ (n : ℕ). c.args.self.now.receipts.items ++ n ∷ []) c.moment.ensures

pub returns-clause-journal : goal.returns-clause-journal
returns-clause-journal g c =
    let old = c.args.self.now in
    let x = c.index-section.result.now in
    files_are old c.requires.sound c.requires.goes c.requires.pending x (c.index-section.ensures ∙ ap (λ (n : ℕ). get_or old.sections.items (n - old.dropped) x) c.synced_count.ensures)
    c.deref.result.now (c.deref.ensures.value ∙ c.in_ok-spell.ensures.ok ∙ ap (λ (i : ℕ). section_bytes i x) c.id.ensures) c.append.new.self c.sync.new.self c.in_ok-sync.ensures.state c.in_ok-append.ensures.state

pub returns-clause-made : goal.returns-clause-made
returns-clause-made g c =
    let old = c.args.self.now in
    let x = c.index-section.result.now in
    asks_are old c.requires.sound c.requires.goes c.requires.pending x (c.index-section.ensures ∙ ap (λ (n : ℕ). get_or old.sections.items (n - old.dropped) x) c.synced_count.ensures)
    c.deref.result.now (c.deref.ensures.value ∙ c.in_ok-spell.ensures.ok ∙ ap (λ (i : ℕ). section_bytes i x) c.id.ensures) c.append.new.self c.in_ok-append.ensures.state _ _ _ c.in_ok-append.ensures.made c.in_ok-sync.ensures.made
