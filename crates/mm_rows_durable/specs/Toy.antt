-- What the toy engine of the tests means: each image stands for each database, and each command is carried out on it, with nothing changed.
use Rattle.mm_model.specs.declared.reply.Reply.TheVariants.{Done}
use Rattle.mm_held.specs.Meaning.{Meaning}

abbrev pub toy : Meaning
toy = record {
  stands = λ image db. Unit {0};
  after = λ db c. (Done 0, db);
  may_weigh = λ image c weight. Unit {0};
  may_lack = λ image c. Unit {0};
  lacks = λ image c left. Unit {0};
  room = λ image. 0;
  finds = λ image finding. Unit {0};
}
