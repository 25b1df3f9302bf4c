-- Codes of the values.
use Rattle.std.specs.Prelude.{ℕ, List, Option, refl}
use Rattle.std.specs.Coded.{Coded, code_by, coded×, coded_ℕ, coded_list, coded_option}
use denote.RawPtr.{Ptr, coded_ptr}
use Rattle.mm_ranges.specs.declared.part.Part.{Part}
use Rattle.mm_ranges.specs.declared.part.Closed.{Closed}
use Rattle.mm_views.specs.State.{State}
use Rattle.mm_views.specs.Codes.{part_code, state_code}
use Rattle.mm_tie.specs.Ends.{Ring}
use Rattle.mm_model.specs.declared.action.Entry.{Entry}
use Rattle.mm_model.specs.contracts.action.Entry as logged
use Rattle.mm_held.specs.Images.{Imaged}
use Rattle.mm_held.specs.Held.{HeldView}

abbrev pub closed_code : Coded Closed
closed_code = code_by (ℕ × (Part × ℕ)) (coded× coded_ℕ (coded× part_code coded_ℕ)) (λ r. (r.section, (r.part, r.entries))) (λ p. record { section = p.0; part = p.1.0; entries = p.1.1 }) (λ _. refl)

abbrev pub ring_code : Coded Ring
ring_code = code_by (Ptr × (Ptr × (ℕ × (ℕ × ℕ)))) (coded× coded_ptr (coded× coded_ptr (coded× coded_ℕ (coded× coded_ℕ coded_ℕ)))) (λ r. (r.0, (r.1, r.2))) (λ p. (p.0, p.1.0, p.1.1)) (λ _. refl)

abbrev pub imaged_code : Coded Imaged
imaged_code = code_by (State × (ℕ × (List Closed × (Ring × (ℕ × ℕ))))) (coded× state_code (coded× coded_ℕ (coded× (coded_list closed_code) (coded× ring_code (coded× coded_ℕ coded_ℕ)))))
    (λ v. (v.views, (v.first, (v.given, (v.ring, (v.most, v.applied)))))) (λ p. record { views = p.0; first = p.1.0; given = p.1.1.0; ring = p.1.1.1.0; most = p.1.1.1.1.0; applied = p.1.1.1.1.1 }) (λ _. refl)

abbrev pub entry_code : Coded Entry
entry_code = logged.the_row.coded

abbrev pub held_code : {E P : Type 0} → Coded E → Coded P → Coded (HeldView E P)
held_code {E} {P} e p = code_by (E × (Option P × (Imaged × (List (List Entry) × (List Entry × (List Ring × List ℕ))))))
    (coded× e (coded× (coded_option p) (coded× imaged_code (coded× (coded_list (coded_list entry_code)) (coded× (coded_list entry_code) (coded× (coded_list ring_code) (coded_list coded_ℕ)))))))
    (λ v. (v.engine, (v.probe, (v.images, (v.groups, (v.waiting, (v.rings, v.rooms)))))))
    (λ q. record { engine = q.0; probe = q.1.0; images = q.1.1.0; groups = q.1.1.1.0; waiting = q.1.1.1.1.0; rings = q.1.1.1.1.1.0; rooms = q.1.1.1.1.1.1 }) (λ _. refl)
