use Rattle.std.proofs.Common.{rules}
use Rattle.turning.specs.Limits.{max_edge}
use Rattle.file.specs.declared.questions.StripQuestion.TheVariants.{Names, Followers, Followed}
use Rattle.file.specs.Questions.{name_good, follower_good, followed_right}
use Rattle.file.specs.Views.{told}
use Rattle.file.specs.Verdict.{strip_verdict, strip_fault}
use Rattle.file.proofs.Places.{asked_good}
use Rattle.file.proofs.Walking.{turned}
use Rattle.strip_questions.proofs.asked.ask_strip.Goals as goal

pub returns-in_err-names_good : goal.returns-in_err-names_good
unfolding strip_verdict
returns-in_err-names_good c = search rules

pub returns-in_err-names_paired : goal.returns-in_err-names_paired
unfolding strip_verdict
returns-in_err-names_paired c = search rules

pub returns-in_err-followers_good : goal.returns-in_err-followers_good
unfolding strip_verdict
returns-in_err-followers_good c = search rules

pub returns-in_err-slots_followed : goal.returns-in_err-slots_followed
unfolding strip_verdict
returns-in_err-slots_followed c = search rules

pub returns-in_err-rounds_right : goal.returns-in_err-rounds_right
unfolding strip_verdict
returns-in_err-rounds_right c = search rules

pub returns-in_err-points_good : goal.returns-in_err-points_good
unfolding strip_verdict
returns-in_err-points_good c = search rules

pub names_paired-requires : goal.names_paired-requires
names_paired-requires c = record { named = asked_good (strip_fault Names c.args.number) c.args.s.slots (name_good max_edge (told c.args.s)) _ tt c.in_ok-names_good.ensures }

pub slots_followed-requires-clause-followers : goal.slots_followed-requires-clause-followers
slots_followed-requires-clause-followers c = asked_good (strip_fault Followers c.args.number) c.args.s.slots (follower_good (told c.args.s)) _ tt c.in_ok-followers_good.ensures

pub rounds_right-requires-clause-turned : goal.rounds_right-requires-clause-turned
rounds_right-requires-clause-turned c =
    turned (told c.args.s)
    (asked_good (strip_fault Followers c.args.number) c.args.s.slots (follower_good (told c.args.s)) _ tt c.in_ok-followers_good.ensures)
    (asked_good (strip_fault Followed c.args.number) c.args.s.slots (followed_right (told c.args.s)) _ tt c.in_ok-slots_followed.ensures)

pub returns : goal.returns
unfolding strip_verdict
returns c = search rules
