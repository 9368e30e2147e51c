-- What the program keeps while it reads words, as what is asked for.
use Rattle.std.specs.Prelude.{Bool, Option, Some, None, map, if◌then◌else◌}
use Rattle.mp_words.specs.declared.asked.Audit.{Audit}
use Rattle.mp_words.specs.declared.asked.Certify.{Certify}
use Rattle.mp_words.specs.declared.asked.Check.{Check}
use Rattle.mp_words.specs.declared.asked.Make.{Make}
use Rattle.mp_words.specs.declared.asked.Replay.{Replay}
use Rattle.mp_words.specs.declared.asked.Request.{Request}
use Rattle.mp_words.specs.declared.asked.Request.TheVariants as request
use Rattle.mp_words.specs.declared.asked.Solve.{Solve}
use Rattle.mp_words.specs.declared.read.Read.{Read}
use Rattle.mp_words.specs.Asked.{Asked}
use Rattle.mp_words.specs.Requests.{ToAudit, ToCertify, ToCheck, ToMake, ToReplay, ToSolve, Wanted}
use Rattle.mp_words.specs.Requests.Wanted.{audits, certifies, checks, makes, replays, solves}

abbrev pub asked_by : Read → Asked
asked_by r = record {
  limit = r.limit;
  heuristic = r.heuristic;
  workers = r.workers;
  one = r.one;
  trace = r.trace;
  show = r.show;
  awaited = r.awaited;
  plain_alone = r.plain_alone;
  plain = map (λ word. word.now) r.plain.items;
}

abbrev pub solve_by : Solve → ToSolve
solve_by s = record {
  search = record { heuristic = s.heuristic; limit = s.limit };
  work = record { workers = s.workers; one = s.one };
  trace = s.trace;
  names = map (λ name. name.now) s.names.items;
}

abbrev pub replay_by : Replay → ToReplay
replay_by r = record {
  search = record { heuristic = r.heuristic; limit = r.limit };
  schedule = r.schedule.now;
  names = map (λ name. name.now) r.names.items;
}

abbrev pub check_by : Check → ToCheck
check_by c = record { steps = c.steps; plan = c.plan.now; names = map (λ name. name.now) c.names.items }

abbrev pub certify_by : Certify → ToCertify
certify_by c = record { limit = c.limit; names = map (λ name. name.now) c.names.items }

abbrev pub audit_by : Audit → ToAudit
audit_by a = record {
  certificate = a.certificate.now;
  plan = a.plan.now;
  names = map (λ name. name.now) a.names.items;
}

abbrev pub make_by : Make → ToMake
make_by m = record {
  search = record { heuristic = m.heuristic; limit = m.limit };
  work = record { workers = m.workers; one = m.one };
  show = m.show;
  size = m.size;
  number = m.number;
}

abbrev pub wanted_by : Request → Wanted
wanted_by (request.Solve s) = solves (solve_by s)
wanted_by (request.Replay r) = replays (replay_by r)
wanted_by (request.Check c) = checks (check_by c)
wanted_by (request.Certify c) = certifies (certify_by c)
wanted_by (request.Audit a) = audits (audit_by a)
wanted_by (request.Make m) = makes (make_by m)

-- what is asked for now, where a word was accepted
abbrev pub where_accepted : Bool → Read → Option Asked
where_accepted accepted r = if accepted then Some (asked_by r) else None
