use Rattle.std.proofs.Common.{◌≡◌, ◌+◌, ◌*◌, ◌≤◌, length, refl, ap, arith}
use Rattle.std.proofs.lemmas.List.{length-map}
use Rattle.slab.specs.Slab.{Slab, slab_len}
use Rattle.st_map.specs.declared.links.End.{End}
use Rattle.st_map.specs.Links.{first_at}
use Rattle.st_map.proofs.LinkLemmas.{length-cw}
use Rattle.st_map.proofs.LinkLoops.{roomier}
use Rattle.st_map.proofs.links.Links.reserve.Goals as goal

pub invariant_of-self-in_err-make_room : goal.invariant_of-self-in_err-make_room
invariant_of-self-in_err-make_room c = roomier c.self.inside.ends c.make_room_for_ends.new.ends c.self.inside.keys.items c.make_room.new.table.items c.self.inside.first.items c.self.inside.first.items c.make_room_for_ends.ensures.kept c.make_room.ensures.items refl c.self.invariant

pub invariant_of-self-in_err-make_room-2 : goal.invariant_of-self-in_err-make_room-2
invariant_of-self-in_err-make_room-2 c = roomier c.self.inside.ends c.make_room_for_ends.new.ends c.self.inside.keys.items c.make_room.new.table.items c.self.inside.first.items c.make_room-2.new.table.items c.make_room_for_ends.ensures.kept c.make_room.ensures.items c.make_room-2.ensures.items c.self.invariant

pub invariant_of-self-2 : goal.invariant_of-self-2
invariant_of-self-2 c = roomier c.self.inside.ends c.make_room_for_ends.new.ends c.self.inside.keys.items c.make_room.new.table.items c.self.inside.first.items c.make_room-2.new.table.items c.make_room_for_ends.ensures.kept c.make_room.ensures.items c.make_room-2.ensures.items c.self.invariant

pub returns-clause-room : goal.returns-clause-room
returns-clause-room c =
    let n : length c.make_room.new.table.items ≡ length c.self.inside.keys.items = ap length c.make_room.ensures.items in
    let s : slab_len c.make_room_for_ends.new.ends ≡ slab_len c.self.inside.ends = ap (λ (z : Slab End). slab_len z) c.make_room_for_ends.ensures.kept in
    let room : slab_len c.make_room_for_ends.new.ends + 2 * c.args.more ≤ c.make_room_for_ends.new.ends.capacity = c.in_ok-make_room_for_ends.ensures.room in
    let len = length-cw c.make_room_for_ends.new.ends c.make_room.new.table.items c.make_room-2.new.table.items 0 0 in
    record {
      ends = omega (arith, c.self.invariant.count);
      edges = omega (arith, c.in_ok-make_room.ensures.room);
      vertices = omega (arith, c.in_ok-make_room-2.ensures.room, length-map c.make_room-2.new.table.items (first_at c.make_room_for_ends.new.ends));
    }
