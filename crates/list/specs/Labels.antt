-- Labels: an edge and a record without them.
use Rattle.model.specs.declared.Edge.{Edge}
use Rattle.model.specs.declared.Model.{Model}
use Rattle.list.specs.OtherEdges.{edge_with, map_edges}

-- The edge with label 0: private.
unfoldable pub unlabelled_edge : Edge → Edge
unlabelled_edge e = edge_with e 0 e.resets

-- The record with every edge private.
unfoldable pub unlabelled : Model → Model
unlabelled m = map_edges unlabelled_edge m
