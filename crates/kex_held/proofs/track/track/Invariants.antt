use Rattle.std.proofs.Common.{◌<◌, length, take}
use Rattle.kex_held.specs.Tracks.{TracksAny}
use Rattle.kex_held.proofs.track.track.Given as goal

abbrev pub invariant-parts : goal.invariant-parts
invariant-parts l = record {
  node : l.at < length l.machine.nodes;
  tracks : TracksAny l.machine.nodes l.texts (take l.part-index l.parts) l.from l.at l.links.items;
}
