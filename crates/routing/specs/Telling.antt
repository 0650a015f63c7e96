-- What a call tells a chooser, a filler or a guide, in the words of the definitions.
use Rattle.routing_laws.specs.Chains.{Told, tell}
use Rattle.routing_laws.specs.Filling.{Asked, Task, asked, task}
use Rattle.routing.specs.declared.choosing.Question.{Question}
use Rattle.routing.specs.declared.filling.Task.{Task as Given}
use Rattle.routing.specs.declared.guiding.Request.{Request}

abbrev pub asked_by : Question → Asked
asked_by q = asked q.plane q.way q.router q.candidates.now

abbrev pub task_of : Given → Task
task_of t = task t.sizes t.plane t.way t.elevators.now

abbrev pub told_by : Request → Told
told_by r = tell r.sizes r.place r.half r.destination r.side r.trip
