-- `text_mend` settles the text in rooms of its own, and writes what that answers.
use Rattle.call_mend.proofs.MendGiven.{settled_mended, mend_promised}
use Rattle.call_mend.proofs.text_mend.Goals as goal

pub write_mended-requires : goal.write_mended-requires
write_mended-requires c = (
  c.settle_rooms-mended.ensures.ls,
  settled_mended _ c.if-text-gt65535.false _ c.settle_rooms-mended.ensures,
)

pub returns : goal.returns
returns c = mend_promised _ c.if-text-gt65535.false _ c.settle_rooms-mended.ensures
    (c.args.room.now, c.args.report.now, c.args.report_written.now) c.write_mended.result _
    (c.write_mended.ensures c.settle_rooms-mended.ensures.ls
    (settled_mended _ c.if-text-gt65535.false _ c.settle_rooms-mended.ensures))
