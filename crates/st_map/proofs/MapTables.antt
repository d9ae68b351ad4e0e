-- The tables of a map as the program keeps them.
use Rattle.st_map.specs.Tables.{Tables, tables}
use Rattle.st_map.specs.declared.map.Map.TheInside.{Inside}

abbrev pub tables_of : Inside → Tables
tables_of a = tables a.vertices a.ends.items a.links.first a.degree.items a.links.cw a.links.ccw
