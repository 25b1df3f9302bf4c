-- Codes of the values.
use Rattle.std.specs.Prelude.{ℕ, Bool, List, refl}
use Rattle.std.specs.Coded.{Coded, code_by, coded×, coded_ℕ, coded_bool, coded_list}
use Rattle.std.specs.FinMap.{code}
use Rattle.mm_ranges.specs.Places.{Range}
use Rattle.mm_ranges.specs.Overlay.{Image}
use Rattle.mm_ranges.specs.declared.part.Piece.{Piece}
use Rattle.mm_ranges.specs.declared.part.Made.{Made}
use Rattle.mm_ranges.specs.declared.part.Part.{Part}
use Rattle.mm_views.specs.State.{State, Drafting}

abbrev pub image_code : Coded Image
image_code = code coded_ℕ (coded_list coded_ℕ)

abbrev pub range_code : Coded Range
range_code = code_by (ℕ × (ℕ × ℕ)) (coded× coded_ℕ (coded× coded_ℕ coded_ℕ)) (λ r. (r.0, (r.1, r.2))) (λ p. (p.0, p.1.0, p.1.1)) (λ _. refl)

abbrev pub piece_code : Coded Piece
piece_code = code_by (ℕ × (ℕ × List ℕ)) (coded× coded_ℕ (coded× coded_ℕ (coded_list coded_ℕ))) (λ r. (r.file, (r.at, r.bytes))) (λ p. record { file = p.0; at = p.1.0; bytes = p.1.1 }) (λ _. refl)

abbrev pub made_code : Coded Made
made_code = code_by (ℕ × ℕ) (coded× coded_ℕ coded_ℕ) (λ r. (r.file, r.len)) (λ p. record { file = p.0; len = p.1 }) (λ _. refl)

abbrev pub part_code : Coded Part
part_code = code_by (List ℕ × (List Made × List Piece)) (coded× (coded_list coded_ℕ) (coded× (coded_list made_code) (coded_list piece_code)))
    (λ r. (r.name, (r.made, r.pieces))) (λ p. record { name = p.0; made = p.1.0; pieces = p.1.1 }) (λ _. refl)

abbrev pub state_code : Coded State
state_code = code_by (Image × (Image × (List Made × (List Range × (List Part × Bool)))))
    (coded× image_code (coded× image_code (coded× (coded_list made_code) (coded× (coded_list range_code) (coded× (coded_list part_code) coded_bool)))))
    (λ s. (s.shared, (s.private, (s.made, (s.opened, (s.closed, s.is_ready))))))
    (λ p. record { shared = p.0; private = p.1.0; made = p.1.1.0; opened = p.1.1.1.0; closed = p.1.1.1.1.0; is_ready = p.1.1.1.1.1 }) (λ _. refl)

abbrev pub drafting_code : Coded Drafting
drafting_code = code_by (State × (Image × (List Made × (List Range × Bool)))) (coded× state_code (coded× image_code (coded× (coded_list made_code) (coded× (coded_list range_code) coded_bool))))
    (λ d. (d.views, (d.image, (d.made, (d.declared, d.is_reserved)))))
    (λ p. record { views = p.0; image = p.1.0; made = p.1.1.0; declared = p.1.1.1.0; is_reserved = p.1.1.1.1 }) (λ _. refl)
