use Rattle.session_serve.proofs.Events.{at_most_one, in_call-event, played-in_flight}
use Rattle.session_serve.proofs.playing.go_on.Goals as goal

pub returns-clause-most : goal.returns-clause-most
returns-clause-most g c = at_most_one c.step-event.result _ _ _ _ c.step-event.ensures.event

pub returns-clause-in_flight : goal.returns-clause-in_flight
returns-clause-in_flight g c = played-in_flight c.step-event.result _ _ _ _ c.step-event.ensures.event c.requires

pub returns-clause-in_call : goal.returns-clause-in_call
returns-clause-in_call g c = λ said opened front. in_call-event c.step-event.result _ _ said front opened _ _ c.step-event.ensures.event
