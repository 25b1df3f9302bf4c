-- From the draft of a command to what the step owes.
use Rattle.std.proofs.Common.{◌≡◌, ◌≤◌, ◌+◌, ℕ, true, false, refl, sym, ◌∙◌, ap, subst, arith}
use Rattle.mm_views.specs.State.{State, Drafting, IsAdopted, drafting_of, weight_in}
use Rattle.mm_model.specs.declared.command.Command.{Command}
use Rattle.mm_model.specs.declared.reply.Reply.{Reply}
use Rattle.mm_model.specs.Laws.{is_ok}
use Rattle.mm_held.specs.declared.attempt.Answer.{Answer}
use Rattle.mm_held.specs.declared.attempt.Fate.{Fate}
use Rattle.mm_held.specs.declared.attempt.Fate.TheVariants.{Adopted, GivenUp}
use Rattle.mm_held.specs.declared.fault.Refused.{Refused}
use Rattle.mm_held.specs.declared.fault.Refused.TheVariants.{GroupFull, NoMemory as NoneLeft}
use Rattle.mm_held.specs.Meaning.{Meaning, Stored}
use Rattle.mm_held.specs.History.{IsReply, moved}
use Rattle.mm_held.specs.Steps.{IsCarriedOut, IsAnswered, IsLimited, IsStep, IsCause}
use Rattle.mm_held.specs.Fates.{AreSame, IsReady, IsTwice, IsWeighed, IsTooMuch, IsAdoptedFor, IsGivenUpFor, IsFate, weight_of}
use Rattle.mm_held.proofs.Replies.{carried_out, replied, limited, kept, ok_reply, ok_moved}

-- a draft that was only reserved weighs the same
same_weight : (mid new : Drafting) → AreSame mid new → weight_of mid ≡ weight_of new
same_weight mid new s = ap (λ ms. weight_in ms mid.declared) (sym s.made) ∙ ap (weight_in new.made) (sym s.declared)

module _ (m : Meaning) (db : Stored) (c : Command) (old mid new : Drafting) (r : Reply) (ok : is_ok r ≡ true) (stands : m.stands old.image db) (answered : IsAnswered m db c old mid r) (same : AreSame mid new) where
  carried : IsCarriedOut m db c old mid r
  carried = carried_out m db c old mid r ok answered

  carried_there : IsCarriedOut m db c old new r
  carried_there = record {
    reply = carried.reply;
    stands = subst (λ image. m.stands image (m.after db c).1) (sym same.image) carried.stands;
    weight = subst (m.may_weigh old.image c) (same_weight mid new same) carried.weight;
    room = subst (λ image. m.room image ≤ m.room old.image) (sym same.image) carried.room;
  }

  done : is_ok (m.after db c).0 ≡ true
  done = ap is_ok (sym carried.reply) ∙ ok

  pub weighed_fate : (fate : Fate) → IsWeighed mid r fate → IsFate m db c old new fate
  weighed_fate (Adopted answer) w = record {
    twice = w.kept ∙ sym w.reply;
    done = ap is_ok w.reply ∙ ok;
    limit = subst (IsLimited m old.image c) (sym w.reply) (limited m db c old mid r answered);
    carried = subst (IsCarriedOut m db c old new) (sym w.reply) carried_there;
  }
  weighed_fate (GivenUp answer) w = record {
    twice = w.0.kept ∙ sym w.0.reply;
    refused = ap is_ok w.0.reply;
    reply = subst (IsReply m (m.room old.image) db c) (sym w.0.reply) (w.1, record { image = old.image; stands = stands; room = omega arith; done = done; cause = carried.weight });
    limit = subst (IsLimited m old.image c) (sym w.0.reply) (w.1, carried.weight);
    kept = ap (moved m db c) w.0.reply;
  }

  pub weighed_full : (used : ℕ) (refused : Refused) → IsTooMuch used mid refused → IsCause m db c old.image used refused
  weighed_full used (GroupFull weight) w = record { done = done; draft = weight_of mid; cause = carried.weight; limit = w.1; sum = w.0; full = w.2 }
  weighed_full used NoneLeft w = w

pub given_up : (m : Meaning) (db : Stored) (c : Command) (old new : Drafting) (r : Reply) (answer : Answer)
    → is_ok r ≡ false → m.stands old.image db → IsAnswered m db c old new r → IsTwice answer r → IsGivenUpFor m db c old answer
given_up m db c old new r answer is stands answered t = record {
  twice = t.kept ∙ sym t.reply;
  refused = ap is_ok t.reply ∙ is;
  reply = subst (IsReply m (m.room old.image) db c) (sym t.reply) (replied m db c old new r is stands answered);
  limit = subst (IsLimited m old.image c) (sym t.reply) (limited m db c old new r answered);
  kept = ap (moved m db c) t.reply ∙ kept m db c old new r is answered;
}

-- what is adopted is a step
pub adopted_step : (m : Meaning) (db : Stored) (c : Command) (views : State) (d : Drafting) (s : State) (answer : Answer) (used : ℕ)
    → IsAdoptedFor m db c (drafting_of views) d answer → d.views ≡ views → IsReady used d → IsAdopted d s
    → weight_in s.made s.opened ≤ weight_in d.views.made d.views.opened + weight_in d.made d.declared → used ≡ weight_in views.made views.opened
    → IsStep m db c views s answer.reply
adopted_step m db c views d s answer used a v ready is weight weighed = record {
  reply = ok_reply m (m.room s.private) db c answer.reply a.done a.carried.reply;
  limit = a.limit;
  stands = subst (m.stands s.private) (sym (ok_moved m db c answer.reply a.done)) (subst (λ image. m.stands image (m.after db c).1) (sym is.private) a.carried.stands);
  room = subst (λ image. m.room image ≤ m.room views.private) (sym is.private) a.carried.room;
  shared = is.shared ∙ ap (λ (w : State). w.shared) v;
  closed = is.closed ∙ ap (λ (w : State). w.closed) v;
  opened = λ _. record { weight = weight_of d; cause = a.carried.weight; limit = ready.step; group = subst (λ n. n + weight_of d ≤ 134217728) weighed ready.group; opened = subst (λ (w : State). weight_in s.made s.opened ≤ weight_in w.made w.opened + weight_of d) v weight };
  refused = λ no_ok. absurd (let yes = a.done in cc);
}

-- a draft that is given up changes nothing
pub given_up_step : (m : Meaning) (db : Stored) (c : Command) (views s : State) (answer : Answer)
    → IsGivenUpFor m db c (drafting_of views) answer → m.stands views.private db → s ≡ views → IsStep m db c views s answer.reply
given_up_step m db c views s answer a stands same = subst (λ w. IsStep m db c views w answer.reply) (sym same) (record {
  reply = a.reply;
  limit = a.limit;
  stands = subst (m.stands views.private) (sym a.kept) stands;
  room = omega arith;
  shared = refl;
  closed = refl;
  opened = λ ok. absurd (let refused = a.refused in cc);
  refused = λ _. refl;
})

-- a new draft has the private image
pub begun : (m : Meaning) (db : Stored) (views : State) (d : Drafting) → d ≡ drafting_of views → m.stands views.private db → m.stands d.image db
begun m db views d is stands = subst (λ (e : Drafting). m.stands e.image db) (sym is) stands
