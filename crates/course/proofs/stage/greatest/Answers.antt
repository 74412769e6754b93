use Rattle.std.proofs.Common.{refl}
use Rattle.std.proofs.lemmas.Fn.{says_at}
use Rattle.std.proofs.lemmas.Iterator.{YieldsList-from_map, YieldsList-from_slice}
use Rattle.std.proofs.lemmas.Iterator.Consumers.{reduce_from_yields_List}
use Rattle.course.proofs.Courses.{greatest_asked}
use Rattle.course.proofs.stage.greatest.Goals as goal

pub returns : goal.returns
returns g c answer says =
    let routes = c.args.routes.now in
    greatest_asked answer routes c.max.result c.unwrap_or.result c.unwrap_or.ensures
    (reduce_from_yields_List _ c.map.result _ c.max.ensures.ran
    (YieldsList-from_map _ answer (YieldsList-from_slice routes cc) c.map.ensures.closure
    (λ x b q k. (
      g.met.F.Fn.1.step_stays _ _ _ _ (record { met = k.met }),
      says x.now b (says_at g.F.Fn ((g.met.F.FnMut.1.post_iff _ _ _).1 (q, record { met = k.met })) refl),
    ))))
