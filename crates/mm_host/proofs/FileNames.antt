-- Which part of a name the test of it looks at.
use Rattle.std.proofs.Common.{◌≡◌, ◌≢◌, inl, inr, ℕ, List, ◌++◌, Contains, sym, ◌∙◌, subst, refl, arith}
use Rattle.mm_host.specs.Names.{slash, IsPart, journal_prefix, IsFileName}

has_slash : (part : List ℕ) → Contains (journal_prefix ++ part) slash
has_slash part = (7, omega arith, refl)

below_journal : (name part : List ℕ) → name ≡ journal_prefix ++ part → IsFileName name → IsPart part
below_journal name part split (inl plain) = absurd (plain.no_slash (subst (λ l. Contains l slash) (sym split) (has_slash part)))
below_journal name part split (inr (other, split', is)) = let both = sym split' ∙ split in let same : other ≡ part = cc in subst IsPart same is

beside_journal : (name : List ℕ) → ((part : List ℕ) → name ≢ journal_prefix ++ part) → IsFileName name → IsPart name
beside_journal name none (inl plain) = plain
beside_journal name none (inr (part, split, is)) = absurd (none part split)

pub names_below : (name part : List ℕ) → name ≡ journal_prefix ++ part → (IsFileName name → IsPart part) × (IsPart part → IsFileName name)
names_below name part split = (below_journal name part split, λ is. inr (part, split, is))

pub names_beside : (name : List ℕ) → ((part : List ℕ) → name ≢ journal_prefix ++ part) → (IsFileName name → IsPart name) × (IsPart name → IsFileName name)
names_beside name none = (beside_journal name none, λ is. inl is)
