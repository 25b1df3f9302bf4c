use Rattle.std.proofs.Common.{◌≡◌, ◌≢◌, ◌++◌, ℕ, List, Option, Some, None, MatchOption, IfSome, IfNone}
use Rattle.std.proofs.lemmas.Bool.Decides.{Decides-eqb}
use Rattle.std.proofs.lemmas.Slice.Eq.{strip_prefix_is}
use Rattle.mm_main.proofs.collections.behind.Goals as goal

some_part : {X : Type 0} (o : Option X) (P : Type 0) (Q : X → Type 0) → MatchOption o P Q → IfSome o Q
some_part None P Q h = tt
some_part (Some x) P Q h = h

none_part : {X : Type 0} (o : Option X) (P : Type 0) (Q : X → Type 0) → MatchOption o P Q → IfNone o P
none_part None P Q h = h
none_part (Some x) P Q h = tt

pub returns-clause-some : goal.returns-clause-some
returns-clause-some c = some_part c.strip_prefix.result ((rest : List ℕ) → c.args.text.now ≢ c.args.front.now ++ rest) (λ x. c.args.text.now ≡ c.args.front.now ++ x.now) (strip_prefix_is Decides-eqb c.args.text.now c.args.front.now c.strip_prefix.result c.strip_prefix.ensures.cases)

pub returns-clause-none : goal.returns-clause-none
returns-clause-none c = none_part c.strip_prefix.result ((rest : List ℕ) → c.args.text.now ≢ c.args.front.now ++ rest) (λ x. c.args.text.now ≡ c.args.front.now ++ x.now) (strip_prefix_is Decides-eqb c.args.text.now c.args.front.now c.strip_prefix.result c.strip_prefix.ensures.cases)
