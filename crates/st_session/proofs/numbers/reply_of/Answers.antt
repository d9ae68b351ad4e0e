use Rattle.st_session.proofs.NumberLemmas.{numbers_are, x_within, y_within}
use Rattle.st_session.proofs.numbers.reply_of.Goals as goal

pub reaches-reached-requires-clause-u_in_x : goal.reaches-reached-requires-clause-u_in_x
reaches-reached-requires-clause-u_in_x c = x_within c.args.map.now.graph c.args.poles.source.0 c.args.poles.sink.0 c.args.outer.0 c.args.labels.now c.args.u.0 c.requires.labels c.requires.u_there

pub reaches-reached-requires-clause-u_in_y : goal.reaches-reached-requires-clause-u_in_y
reaches-reached-requires-clause-u_in_y c = y_within c.args.map.now.graph c.args.poles.source.0 c.args.poles.sink.0 c.args.outer.0 c.args.labels.now c.args.u.0 c.requires.labels c.requires.u_there

pub reaches-reached-requires-clause-v_in_x : goal.reaches-reached-requires-clause-v_in_x
reaches-reached-requires-clause-v_in_x c = x_within c.args.map.now.graph c.args.poles.source.0 c.args.poles.sink.0 c.args.outer.0 c.args.labels.now c.args.v.0 c.requires.labels c.requires.v_there

pub reaches-reached-requires-clause-v_in_y : goal.reaches-reached-requires-clause-v_in_y
reaches-reached-requires-clause-v_in_y c = y_within c.args.map.now.graph c.args.poles.source.0 c.args.poles.sink.0 c.args.outer.0 c.args.labels.now c.args.v.0 c.requires.labels c.requires.v_there

pub get-from_x-requires : goal.get-from_x-requires
get-from_x-requires c = x_within c.args.map.now.graph c.args.poles.source.0 c.args.poles.sink.0 c.args.outer.0 c.args.labels.now c.args.u.0 c.requires.labels c.requires.u_there

pub get-from_y-requires : goal.get-from_y-requires
get-from_y-requires c = y_within c.args.map.now.graph c.args.poles.source.0 c.args.poles.sink.0 c.args.outer.0 c.args.labels.now c.args.u.0 c.requires.labels c.requires.u_there

pub get-to_x-requires : goal.get-to_x-requires
get-to_x-requires c = x_within c.args.map.now.graph c.args.poles.source.0 c.args.poles.sink.0 c.args.outer.0 c.args.labels.now c.args.v.0 c.requires.labels c.requires.v_there

pub get-to_y-requires : goal.get-to_y-requires
get-to_y-requires c = y_within c.args.map.now.graph c.args.poles.source.0 c.args.poles.sink.0 c.args.outer.0 c.args.labels.now c.args.v.0 c.requires.labels c.requires.v_there

pub returns : goal.returns
returns c = numbers_are c.args.map.now.graph c.args.poles.source.0 c.args.poles.sink.0 c.args.outer.0 c.args.labels.now c.args.u.0 c.args.v.0 c.reaches-reached.result c.get-from_x.result.now c.get-from_y.result.now c.get-to_x.result.now c.get-to_y.result.now
    c.requires.planar c.requires.labels c.requires.u_there c.requires.v_there c.reaches-reached.ensures c.get-from_x.ensures.read c.get-from_y.ensures.read c.get-to_x.ensures.read c.get-to_y.ensures.read
