use Rattle.std.proofs.Common.{◌+◌, ◌*◌, ◌≤◌, length}
use Rattle.mm_notation.proofs.Behind.{MembersPut, ValuesPut}
use Rattle.mm_notation.proofs.objects.+read.Given as goal

abbrev pub decreases-object : goal.decreases-object
decreases-object l = 4 * l.levels

abbrev pub decreases-array : goal.decreases-array
decreases-array l = 4 * l.levels

abbrev pub decreases-element : goal.decreases-element
decreases-element l = 4 * l.levels + 1

abbrev pub decreases-member : goal.decreases-member
decreases-member l = 4 * l.levels + 2

abbrev pub decreases-value : goal.decreases-value
decreases-value l = 4 * l.levels + 2

abbrev pub decreases-members : goal.decreases-members
decreases-members l = 4 * l.levels + 3

abbrev pub decreases-values : goal.decreases-values
decreases-values l = 4 * l.levels + 3

abbrev pub invariant-members-members : goal.invariant-members-members
invariant-members-members l = record {
  put : MembersPut l.levels l.fn.out.items l.out.items l.text l.rest;
  left : length l.rest ≤ length l.text;
}

abbrev pub decreases-members-members : goal.decreases-members-members
decreases-members-members l = length l.rest

abbrev pub invariant-values-values : goal.invariant-values-values
invariant-values-values l = record {
  put : ValuesPut l.levels l.place l.fn.out.items l.out.items l.text l.rest;
  left : l.place + length l.rest ≤ length l.text;
}

abbrev pub decreases-values-values : goal.decreases-values-values
decreases-values-values l = length l.rest
