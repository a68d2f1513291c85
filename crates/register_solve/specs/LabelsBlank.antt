-- Rooms that hold nothing yet: no label, and zeros for all else, as many as the limits allow of each.
use Rattle.std.specs.Prelude.{◌≡◌, replicate}
use Rattle.register_solve.specs.declared.label_rooms.LabelRooms.{LabelRooms}

unfoldable pub LabelsBlank : LabelRooms → Type 0
LabelsBlank r =
    (r.numbers ≡ replicate 1024 0) × (r.marks ≡ replicate 1024 0) × (r.objectors ≡ replicate 4096 0)
    × (r.targets ≡ replicate 4096 0) × (r.labels ≡ replicate 1024 0) × (r.lengths ≡ replicate 1024 0)
