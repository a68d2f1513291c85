-- Rooms that hold nothing yet: zeros, as many as the limits allow of each.
use Rattle.std.specs.Prelude.{◌≡◌, replicate}
use Rattle.register_read.specs.declared.rooms.RegisterRooms.{RegisterRooms}

unfoldable pub RoomsBlank : RegisterRooms → Type 0
RoomsBlank r =
    (r.numbers ≡ replicate 1024 0) × (r.marks ≡ replicate 1024 0) × (r.objectors ≡ replicate 4096 0)
    × (r.targets ≡ replicate 4096 0)
