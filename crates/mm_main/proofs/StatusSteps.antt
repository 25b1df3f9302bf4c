-- A status that is none of some isn't among them.
use Rattle.std.proofs.Common.{◌≡◌, inl, inr, [], ◌∷◌}
use Rattle.mm_main.specs.declared.status.Status.{Status}
use Rattle.mm_main.specs.declared.status.Status.TheVariants.{Done, DiskFault, SinkFault, NoMemory, FilesRefused}
use Rattle.mm_main.specs.Top.{IsAmong}

pub none_of_two : (s a b : Status) → (s ≡ a → ⊥) → (s ≡ b → ⊥) → IsAmong s (a ∷ b ∷ []) → ⊥
none_of_two s a b p q (inl e) = p e
none_of_two s a b p q (inr (inl e)) = q e
none_of_two s a b p q (inr (inr e)) = e

pub none_of : (s a b c : Status) → (s ≡ a → ⊥) → (s ≡ b → ⊥) → (s ≡ c → ⊥) → IsAmong s (a ∷ b ∷ c ∷ []) → ⊥
none_of s a b c p q r (inl e) = p e
none_of s a b c p q r (inr among) = none_of_two s b c q r among

pub none_of_five : (s : Status) → (s ≡ Done → ⊥) → (s ≡ DiskFault → ⊥) → (s ≡ SinkFault → ⊥) → (s ≡ NoMemory → ⊥) → (s ≡ FilesRefused → ⊥)
    → IsAmong s (Done ∷ DiskFault ∷ SinkFault ∷ NoMemory ∷ FilesRefused ∷ []) → ⊥
none_of_five s p q r u v (inl e) = p e
none_of_five s p q r u v (inr (inl e)) = q e
none_of_five s p q r u v (inr (inr among)) = none_of s SinkFault NoMemory FilesRefused r u v among
