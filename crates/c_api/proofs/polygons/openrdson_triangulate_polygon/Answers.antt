-- `openrdson_triangulate_polygon` meets its contract: the lists are the call's, the counts are given. Assumes nothing.
use Rattle.c_api.proofs.PolygonCalls.{given_triangles}
use Rattle.c_api.proofs.polygons.openrdson_triangulate_polygon.Goals as goal

pub returns : goal.returns
returns c = given_triangles c.triangulate_polygon-triangulated.ensures.leaves c.give_counts.ensures
