-- The words in which the contracts of nodes and of rows speak.
pub use Rattle.hlc_node.specs.Node.{NodeView, next_item, expected_issue, expected_event}
pub use Rattle.hlc_node.specs.Items.{body_refusal, retires}
pub use Rattle.hlc_rows.specs.Limits.{write_refusal}
pub use Rattle.hlc_rows.specs.Rows.{answer, newest, IsRowSet}
pub use Rattle.hlc_rows.specs.Writes.{batch_refusal, rows_written}
pub use Rattle.hlc_rows.specs.declared.write.Write.{Write as AWrite}
pub use Rattle.hlc_node.specs.declared.item.Item.{Item}
pub use Rattle.hlc_node.specs.declared.item.Body.{Body}
pub use Rattle.hlc_node.specs.declared.item.Body.TheVariants.{Write, Batch, Report, Retire}
pub use Rattle.hlc_node.specs.declared.node.NodeFault.{NodeFault}
pub use Rattle.hlc_rows.specs.declared.row.Row.{Row}
