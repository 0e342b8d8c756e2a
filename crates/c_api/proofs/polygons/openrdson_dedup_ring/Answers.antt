-- `openrdson_dedup_ring` meets its contract: the lists are the call's, the count is given. Assumes nothing.
use Rattle.c_api.proofs.PolygonCalls.{given_ring}
use Rattle.c_api.proofs.polygons.openrdson_dedup_ring.Goals as goal

pub returns : goal.returns
returns c = given_ring c.dedup_ring.ensures c.give.ensures
