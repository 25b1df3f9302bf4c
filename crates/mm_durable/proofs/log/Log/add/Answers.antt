use Rattle.std.proofs.Common.{refl}
use Rattle.mm_durable.proofs.Begins.{adds, grows}
use Rattle.mm_durable.proofs.log.Log.add.Goals as goal

pub returns-clause-sound : goal.returns-clause-sound
returns-clause-sound c = grows c.args.self.now _ c.args.section c.requires.sound c.requires.can c.requires.own c.requires.few refl refl c.push_reserved.ensures.items refl refl refl refl refl

pub returns-clause-kept : goal.returns-clause-kept
returns-clause-kept c = adds c.args.self.now _ c.args.section c.requires.sound refl refl refl c.push_reserved.ensures.items refl refl refl refl refl
